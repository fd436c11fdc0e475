use mathlib.Core.Path.{sym, ap, ◌∙◌}
use Rattle.sets.proofs.Walk.{first_lt}
use Rattle.graph.specs.Graph.{remove_edges_to}
use Rattle.graph.proofs.wait_for_graph.WaitForGraph.remove_edges_to.Goals as goal

pub loop-waiter-init : goal.loop-waiter-init
loop-waiter-init c = rw (c.into_iter-waiter-iterator.ensures.into_iter_gives, c.upward-waiter-items.ensures)

pub remove_edge-requires : goal.remove_edge-requires
remove_edge-requires c = (first_lt _ _ _ _ c.in-Some.ensures.steps, c.requires)

pub loop-waiter-preserved : goal.loop-waiter-preserved
unfolding remove_edges_to
loop-waiter-preserved c =
    rw c.remove_edge.ensures
    (sym (ap (remove_edges_to c.args.thread c.loop-waiter.self) c.in-Some.ensures.steps) ∙ c.loop-waiter.invariant)

pub returns : goal.returns
unfolding remove_edges_to
returns c = rw c.in-None.ensures.steps.0 at c.loop-waiter.invariant
