-- What the code's records of a path and of a search stand for.
use Rattle.std.specs.Prelude.{List, ◌++◌, ◌-◌, length, map, replicate, ℕ}
use Rattle.sets.specs.Limits.{THREADS}
use Rattle.graph.specs.Search.{Trail}
use Rattle.graph.specs.declared.search.Found.{Found}

-- Returns the 32 places that hold a path: its threads, then zeros.
abbrev pub places_of : List ℕ → List ℕ
places_of p = p ++ replicate (THREADS - length p) 0

-- Returns the trail that the threads found and the set of them stand for.
abbrev pub trail_of : List Found → ℕ → Trail
trail_of fs seen = record { threads = map (λ f. f.thread) fs; parents = map (λ f. f.parent) fs; seen = seen }
