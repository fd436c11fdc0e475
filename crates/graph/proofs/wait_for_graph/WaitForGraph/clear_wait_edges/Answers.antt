use Rattle.graph.specs.Graph.{clear_wait_edges}
use Rattle.graph.proofs.wait_for_graph.WaitForGraph.clear_wait_edges.Goals as goal

pub returns : goal.returns
unfolding clear_wait_edges
returns c = rw c.cut_all.ensures
