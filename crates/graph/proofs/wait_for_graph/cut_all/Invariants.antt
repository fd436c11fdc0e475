use mathlib.Core.List.{foldl}
use mathlib.Core.Path.{◌≡◌}
use Rattle.sets.specs.Sets.{upward}
use Rattle.graph.specs.Graph.{cut, cut_all}
use Rattle.graph.proofs.wait_for_graph.cut_all.Given as goal

abbrev pub invariant-loop-i : goal.invariant-loop-i
invariant-loop-i l = foldl (λ u i. cut u i l.t) l.table (upward 32 l.i-iterator.left) ≡ cut_all l.t l.initial.table l.m
