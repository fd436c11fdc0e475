use mathlib.Core.List.{foldl}
use mathlib.Core.Path.{sym, ap, ◌∙◌}
use Rattle.sets.proofs.Tables.{fold_append}
use Rattle.sets.proofs.Walk.{first_lt}
use Rattle.graph.proofs.Adding.{next_added}
use Rattle.graph.specs.Graph.{adding, add_next, add_owners}
use Rattle.graph.proofs.wait_for_graph.WaitForGraph.add_owners.Goals as goal

pub loop-owner-init : goal.loop-owner-init
unfolding add_owners
loop-owner-init c = rw (c.into_iter-owner-iterator.ensures.into_iter_gives, c.upward-owner-items.ensures)

pub add_edge-requires : goal.add_edge-requires
add_edge-requires c = (c.requires.0, first_lt _ _ _ _ c.in-Some.ensures.steps)

pub loop-owner-preserved : goal.loop-owner-preserved
loop-owner-preserved c =
    let l = c.loop-owner in
    rw (c.or-found.ensures, next_added _ _ _ _ l.found _ c.add_edge.ensures)
    (sym (ap (foldl (add_next c.args.t) (adding l.self l.found)) c.in-Some.ensures.steps) ∙ l.invariant)

pub returns-in-Some-last : goal.returns-in-Some-last
unfolding add_owners
returns-in-Some-last c =
    let l = c.loop-owner in
    rw (c.in-Some-last.is, c.or-found-in-Some-last.ensures, fold_append)
    (next_added _ _ _ _ l.found _ c.add_edge-in-Some-last.ensures
    ∙ ap (λ k. add_next c.args.t k c.in-Some-last.last) (rw c.in-None.ensures.steps.0 at l.invariant))
