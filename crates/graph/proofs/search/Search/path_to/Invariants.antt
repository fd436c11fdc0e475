use mathlib.Core.List.{[]}
use mathlib.Core.Path.{◌≡◌}
use Prim.Native.Nat.{◌+◌, ◌-◌, ◌<◌}
use Rattle.std.specs.Prelude.{length, reverse, take}
use Rattle.graph.specs.Search.{way_back}
use Rattle.graph.specs.Code.{trail_of}
use Rattle.graph.proofs.search.Search.path_to.Given as goal

abbrev pub invariant-loop-k : goal.invariant-loop-k
invariant-loop-k l =
    let i = l.self-inside in
    let s = trail_of (take i.count i.found) i.seen in
    (length l.path + l.k < 32)
    × (l.k < i.count)
    × (way_back (31 - length l.path) s l.k (reverse l.path) ≡ way_back 31 s l.place [])

abbrev pub decreases-loop-k : goal.decreases-loop-k
decreases-loop-k l = l.k
