use mathlib.Core.Path.{◌≡◌, sym, ap, ◌∙◌}
use Prim.Native.Nat.{◌-◌, suc}
use native.Mathlib.Numerals.{add-one}
use native.Mathlib.Omega.{arith}
use Rattle.std.specs.Prelude.{Some}
use Rattle.graph.proofs.Trails.{start_idle, turn_met, turn_on, turn_end}
use Rattle.graph.specs.Search.{search, find_path}
use Rattle.graph.proofs.search.find_path.Goals as goal

pub returns-then-start-target : goal.returns-then-start-target
returns-then-start-target c = sym (start_idle _ _ _ c.if-edges-start-eq0.true c.if-start-target.true)

pub loop-p-init : goal.loop-p-init
unfolding find_path
loop-p-init c = rw c.begin-search.ensures

pub returns-in_err-current : goal.returns-in_err-current
returns-in_err-current c =
    c.from_residual.ensures
    ∙ sym (turn_end (32 - c.loop-p.p) _ _ _ _ (sym c.thread.ensures.0 ∙ c.in_err-current.was))
    ∙ c.loop-p.invariant

pub returns-then-current-target : goal.returns-then-current-target
returns-then-current-target c =
    let l = c.loop-p in
    let f : 32 - l.p ≡ suc (31 - l.p) = omega arith in
    ap Some c.path_to.ensures
    ∙ sym (turn_met (31 - l.p) _ _ _ _ _ (sym c.thread.ensures.0 ∙ c.in_ok-current.was) c.if-current-target.true)
    ∙ (rw f at l.invariant)

pub loop-p-preserved : goal.loop-p-preserved
loop-p-preserved c =
    let l = c.loop-p in
    let f : 32 - l.p ≡ suc (32 - suc l.p) = omega arith in
    rw (c.expand.ensures, add-one l.p)
    (sym (turn_on (32 - suc l.p) _ _ _ _ _ (sym c.thread.ensures.0 ∙ c.in_ok-current.was) c.if-current-target.false)
    ∙ (rw f at l.invariant))

pub returns : goal.returns
unfolding search
returns c = let e : c.loop-p.p ≡ 32 = omega arith in rw e at c.loop-p.invariant
