-- What a path and a search keep to.
use Rattle.std.specs.Prelude.{◌≡◌, List, ℕ, ◌<◌, ◌≤◌, ◌^◌, get_or, length}
use Rattle.std.specs.Int.Count.{ones}
use Rattle.sets.specs.Limits.{THREADS}
use Rattle.graph.specs.Search.{Trail}

-- States that every thread of a list is below 32.
abbrev pub Small : List ℕ → Type 0
Small p = (k : ℕ) → get_or p k 0 < THREADS

-- States that a path has at most 32 threads, each below 32.
pub record Fit (p : List ℕ) : Type 0 where
  pub long : length p ≤ THREADS
  pub small : Small p

-- States that a search has found as many threads as are seen, that each is below 32, and that the parent of each but
-- the first stands before it.
pub record Sound (s : Trail) : Type 0 where
  pub counted : length s.threads ≡ ones s.seen
  pub paired : length s.parents ≡ length s.threads
  pub below : s.seen < 2 ^ 32
  pub small : Small s.threads
  pub earlier : (k : ℕ) → 0 < k → k < length s.threads → get_or s.parents k 0 < k
