use Rattle.graph.specs.Graph.{stored}
use Rattle.graph.proofs.wait_for_graph.WaitForGraph.store.Goals as goal

pub returns : goal.returns
unfolding stored
returns c = rw (c.with.ensures, c.with-2.ensures)
