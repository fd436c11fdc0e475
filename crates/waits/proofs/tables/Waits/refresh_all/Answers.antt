use mathlib.Core.List.{foldl}
use mathlib.Core.Path.{sym, ap, ◌∙◌}
use Rattle.sets.proofs.Walk.{first_lt}
use Rattle.waits.specs.Waiting.{refresh_next, refresh_locks}
use Rattle.waits.specs.Code.{linked}
use Rattle.waits.proofs.Steps.{refresh_step}
use Rattle.waits.proofs.tables.Waits.refresh_all.Goals as goal

pub loop-l-init : goal.loop-l-init
unfolding refresh_locks
loop-l-init c = (c.requires, rw (c.into_iter-l-iterator.ensures.into_iter_gives, c.upward-l-items.ensures))

pub refresh_waiters_for_lock-requires : goal.refresh_waiters_for_lock-requires
refresh_waiters_for_lock-requires c = (first_lt _ _ _ _ c.in-Some.ensures.steps, c.loop-l.invariant.0)

pub loop-l-preserved : goal.loop-l-preserved
loop-l-preserved c =
    let l = c.loop-l in
    let r = c.refresh_waiters_for_lock.ensures in (
      r.1,
      rw (c.or-found.ensures, refresh_step _ l.self _ l.found _ _ r.0)
          (sym (ap (foldl (refresh_next c.args.counts.now) (linked l.self l.found)) c.in-Some.ensures.steps) ∙ l.invariant.1),
    )

pub returns : goal.returns
returns c =
    let l = c.loop-l in
    ((rw c.in-None.ensures.steps.0 at l.invariant.1), l.invariant.0)
