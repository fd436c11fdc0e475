use mathlib.Core.Path.{sym, ◌∙◌}
use Rattle.graph.proofs.Adding.{closes, stores}
use Rattle.graph.specs.Graph.{add_edge}
use Rattle.graph.proofs.wait_for_graph.WaitForGraph.add_edge.Goals as goal

pub returns-then-has : goal.returns-then-has
unfolding add_edge
returns-then-has c = rw (sym c.has.ensures ∙ c.if-has.true)

pub returns-then-is_none : goal.returns-then-is_none
unfolding add_edge
returns-then-is_none c =
    let f = c.find_path-found.ensures in
    rw (sym c.has.ensures ∙ c.if-has.false, c.store.ensures, f) (sym (stores _ _ _ _ (rw (← f) c.if-is_none.ensures)))

pub returns-else-is_none : goal.returns-else-is_none
unfolding add_edge
returns-else-is_none c =
    let f = c.find_path-found.ensures in
    rw (sym c.has.ensures ∙ c.if-has.false, f) (sym (closes _ _ _ _ (rw (← f) c.if-is_none.ensures)))
