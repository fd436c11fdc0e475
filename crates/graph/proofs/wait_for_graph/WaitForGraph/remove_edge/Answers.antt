use mathlib.Core.Path.{sym, ◌∙◌}
use Rattle.graph.specs.Graph.{remove_edge}
use Rattle.graph.proofs.wait_for_graph.WaitForGraph.remove_edge.Goals as goal

pub returns-then-has : goal.returns-then-has
unfolding remove_edge
returns-then-has c =
    rw (c.without.ensures, c.without-then-has.ensures, sym c.has.ensures ∙ c.if-has.true)

pub returns-else-has : goal.returns-else-has
unfolding remove_edge
returns-else-has c = rw (sym c.has.ensures ∙ c.if-has.false)
