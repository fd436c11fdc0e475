use mathlib.Core.Path.{◌≡◌}
use Prim.Native.Nat.{◌-◌}
use Rattle.graph.specs.Search.{search, find_path}
use Rattle.graph.proofs.search.find_path.Given as goal

abbrev pub invariant-loop-p : goal.invariant-loop-p
invariant-loop-p l = search (32 - l.p) l.edges l.target l.p l.search ≡ find_path l.edges l.start l.target
