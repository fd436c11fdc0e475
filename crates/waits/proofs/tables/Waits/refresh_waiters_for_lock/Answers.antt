use mathlib.Core.List.{foldl}
use mathlib.Core.Path.{◌≡◌, refl, sym, ap, ◌∙◌, subst}
use Rattle.std.specs.Option.{option_or}
use Rattle.sets.specs.Sets.{upward}
use Rattle.sets.proofs.Walk.{first_lt}
use Rattle.graph.specs.Graph.{Adding, adding}
use Rattle.waits.specs.Tables.{with_graph, waiters_of, InRange}
use Rattle.waits.specs.Waiting.{renew, renew_start, refreshed}
use Rattle.waits.proofs.Laws.{range_graph, range_refresh}
use Rattle.waits.proofs.Steps.{renew_c, renew_all_code, pack_linked}
use Rattle.waits.proofs.Judging.{refresh_linked}
use Rattle.waits.proofs.tables.Waits.refresh_waiters_for_lock.Goals as goal

pub loop-t-init : goal.loop-t-init
loop-t-init c = (refl, rw (c.into_iter-t-iterator.ensures.into_iter_gives, c.upward-t-items.ensures))

pub renew-requires : goal.renew-requires
renew-requires c = (
  first_lt _ _ _ _ c.in-Some.ensures.steps,
  subst InRange (sym c.loop-t.invariant.0) (range_graph c.args.self.now c.loop-t.self.wait_for_graph c.requires.1),
)

pub loop-t-preserved : goal.loop-t-preserved
loop-t-preserved c =
    let l = c.loop-t in
    let w = c.args.self.now in
    let n = c.args.counts.now in
    let r = c.renew.ensures in
    let h = c.renew.new.self.wait_for_graph in
    let t = c.in-Some.t in
    let s = r.0 ∙ ap (λ v. renew n v (renew_start v) t) l.invariant.0 in
    let e : adding h (option_or l.found c.renew.result) ≡ renew_c n w (adding l.self.wait_for_graph l.found) t =
    ap (λ (k : Adding). adding k.graph (option_or l.found k.found)) s
    in (
      r.1 ∙ ap (λ v. with_graph v h) l.invariant.0,
      rw (c.or-found.ensures, e) (sym (ap (foldl (renew_c n w) (adding l.self.wait_for_graph l.found)) c.in-Some.ensures.steps) ∙ l.invariant.1),
    )

pub returns : goal.returns
returns c =
    let l = c.loop-t in
    let w = c.args.self.now in
    let n = c.args.counts.now in
    let e : adding l.self.wait_for_graph l.found ≡ refreshed n w c.args.l =
    (rw c.in-None.ensures.steps.0 at l.invariant.1) ∙ renew_all_code n w (upward 32 (waiters_of w c.args.l))
    in
    pack_linked (refresh_linked n w c.args.l l.self l.found l.invariant.0 e) (range_refresh _ _ _ c.requires.1)
