use mathlib.Core.List.{foldl}
use mathlib.Core.Path.{◌≡◌}
use Prim.Native.Nat.{◌<◌}
use lib.ListN.{length}
use Rattle.sets.specs.Sets.{upward}
use Rattle.graph.specs.Search.{visit, expand}
use Rattle.graph.proofs.search.Search.expand.Given as goal

abbrev pub invariant-loop-n : goal.invariant-loop-n
invariant-loop-n l =
    (l.p < length l.self.threads) × (foldl (visit l.p) l.self (upward 32 l.n-iterator.left) ≡ expand l.p l.initial.self l.m)
