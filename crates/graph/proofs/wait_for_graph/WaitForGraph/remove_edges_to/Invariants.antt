use mathlib.Core.Path.{◌≡◌}
use Rattle.sets.specs.Sets.{upward}
use Rattle.graph.specs.Graph.{remove_edges_to}
use Rattle.graph.proofs.wait_for_graph.WaitForGraph.remove_edges_to.Given as goal

abbrev pub invariant-loop-waiter : goal.invariant-loop-waiter
invariant-loop-waiter l =
    remove_edges_to l.thread l.self (upward 32 l.waiter-iterator.left) ≡ remove_edges_to l.thread l.initial.self (upward 32 l.waiters)
