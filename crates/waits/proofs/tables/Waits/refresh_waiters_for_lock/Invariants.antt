use mathlib.Core.List.{foldl}
use mathlib.Core.Path.{◌≡◌}
use Rattle.sets.specs.Sets.{upward}
use Rattle.graph.specs.Graph.{adding}
use Rattle.waits.specs.Tables.{with_graph, waiters_of}
use Rattle.waits.specs.Waiting.{renew_start}
use Rattle.waits.proofs.Steps.{renew_c}
use Rattle.waits.proofs.tables.Waits.refresh_waiters_for_lock.Given as goal

abbrev pub invariant-loop-t : goal.invariant-loop-t
invariant-loop-t l =
    let w = l.initial.self in
    (l.self ≡ with_graph w l.self.wait_for_graph)
    × (foldl (renew_c l.counts w) (adding l.self.wait_for_graph l.found) (upward 32 l.t-iterator.left)
    ≡ foldl (renew_c l.counts w) (renew_start w) (upward 32 (waiters_of w l.l)))
