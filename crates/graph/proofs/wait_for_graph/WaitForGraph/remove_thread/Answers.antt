use Rattle.graph.specs.Graph.{remove_thread}
use Rattle.graph.proofs.wait_for_graph.WaitForGraph.remove_thread.Goals as goal

pub returns : goal.returns
unfolding remove_thread
returns c = rw (c.cut_all.ensures, c.clear_wait_edges.ensures)
