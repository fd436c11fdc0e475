use mathlib.Core.List.{foldl}
use mathlib.Core.Path.{◌≡◌}
use Rattle.sets.specs.Sets.{upward}
use Rattle.graph.specs.Graph.{adding, add_next, add_owners}
use Rattle.graph.proofs.wait_for_graph.WaitForGraph.add_owners.Given as goal

abbrev pub invariant-loop-owner : goal.invariant-loop-owner
invariant-loop-owner l =
    foldl (add_next l.t) (adding l.self l.found) (upward 32 l.owner-iterator.left) ≡ add_owners l.t l.initial.self (upward 32 l.owners.readers)
