use mathlib.Core.Bool.{false}
use mathlib.Core.Path.{◌≡◌, sym, ◌∙◌}
use Rattle.waits.specs.Code.{free_for}
use Rattle.waits.proofs.Judging.{attempt_free, attempt_none, attempt_passes, attempt_stops}
use Rattle.waits.proofs.tables.Waits.attempt.Goals as goal
use Rattle.waits.proofs.tables.Waits.attempt.Goals.{After-register_wait}

-- After registering it is known that there is something to wait for.
not_free : (c : After-register_wait) → free_for c.args.mode c.args.counts.now c.args.self.now c.args.l ≡ false
not_free c = sym c.is_free_for.ensures ∙ c.if-is_free_for.false

pub returns-then-is_free_for : goal.returns-then-is_free_for
returns-then-is_free_for c =
    let a = c.args in
    (attempt_free _ _ a.t a.l a.mode (sym c.is_free_for.ensures ∙ c.if-is_free_for.true), c.requires.0)

pub returns-in_err-cycle : goal.returns-in_err-cycle
returns-in_err-cycle c =
    let a = c.args in
    let f = not_free (goal.at.returns-in_err-cycle c).After-register_wait in
    let r = c.register_wait.ensures in
    (rw c.from_residual.ensures (attempt_none _ _ a.t a.l a.mode f _ _ r.0 c.in_err-cycle.was), r.1)

pub returns-then-passes_for : goal.returns-then-passes_for
returns-then-passes_for c =
    let a = c.args in
    let f = not_free (goal.at.returns-then-passes_for c).After-register_wait in
    let v = c.validated_deadlock_info.ensures in
    (v.0 ∙ attempt_passes _ _ a.t a.l a.mode f _ _ c.register_wait.ensures.0 _ c.in_ok-cycle.was (sym c.passes_for.ensures ∙ c.if-passes_for.true), v.1)

pub returns : goal.returns
returns c =
    let a = c.args in
    let f = not_free (goal.at.returns c).After-register_wait in
    let r = c.register_wait.ensures in
    (attempt_stops _ _ a.t a.l a.mode f _ _ r.0 _ c.in_ok-cycle.was (sym c.passes_for.ensures ∙ c.if-passes_for.false), r.1)
