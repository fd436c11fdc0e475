use mathlib.Core.List.{foldl}
use mathlib.Core.Path.{sym, ap, ◌∙◌}
use Rattle.sets.proofs.Walk.{first_lt}
use native.Mathlib.Omega.{arith}
use Rattle.graph.specs.Graph.{cut, cut_all}
use Rattle.graph.proofs.wait_for_graph.cut_all.Goals as goal

pub loop-i-init : goal.loop-i-init
unfolding cut_all
loop-i-init c = rw (c.into_iter-i-iterator.ensures.into_iter_gives, c.upward-i-items.ensures)

pub offset_bounds-table-i : goal.offset_bounds-table-i
offset_bounds-table-i c = let l = first_lt _ _ _ _ c.in-Some.ensures.steps in omega arith

pub bounds-table-i : goal.bounds-table-i
bounds-table-i c = first_lt _ _ _ _ c.in-Some.ensures.steps

pub offset_bounds-table-i-in-loop-i : goal.offset_bounds-table-i-in-loop-i
offset_bounds-table-i-in-loop-i c = let l = first_lt _ _ _ _ c.in-Some.ensures.steps in omega arith

pub bounds-table-i-in-loop-i : goal.bounds-table-i-in-loop-i
bounds-table-i-in-loop-i c = first_lt _ _ _ _ c.in-Some.ensures.steps

pub loop-i-preserved : goal.loop-i-preserved
loop-i-preserved c =
    rw c.without.ensures (sym (ap (foldl (λ u i. cut u i c.args.t) c.loop-i.table) c.in-Some.ensures.steps) ∙ c.loop-i.invariant)

pub returns : goal.returns
returns c = rw c.in-None.ensures.steps.0 at c.loop-i.invariant
