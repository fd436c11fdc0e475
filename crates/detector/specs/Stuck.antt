-- STUCK THREADS and stored edges, two totals of the end line.
use Rattle.std.specs.Prelude.{◌≡◌, Bool, true, false, cond, ℕ, ◌+◌, length, set, replicate, Option, None, Some}
use mathlib.Core.List.{List, [], ◌∷◌, foldl}
use Rattle.std.specs.Int.Count.{ones}
use Rattle.sets.specs.Limits.{THREADS}
use Rattle.sets.specs.Sets.{with, upward}
use Rattle.sets.specs.Below.{those, each}
use Rattle.graph.specs.Ways.{Rel, Walk}
use Rattle.graph.specs.Search.{row, find_path}
use Rattle.waits.specs.Tables.{intent_of}
use Rattle.waits.specs.Owners.{blocking, waits_for}
use Rattle.waits.specs.declared.tables.Waits.{Waits}
use Rattle.detector.specs.Tables.{Tables}

-- States that a truly waits for b.
abbrev pub Truly : Tables → Rel
Truly x a b = waits_for x.rwlock_readers x.waits a b ≡ true

-- States that t is stuck: it truly waits for a thread from which a walk of true waits leads back to t.
pub record Stuck (x : Tables) (t : ℕ) : Type 0 where
  pub via : ℕ
  pub waits : Truly x t via
  pub back : Walk (Truly x) via t

-- THE SAME BY A SEARCH over 32 rows of true waits
-- Returns the threads of a list as a set.
abbrev pub mask_of : List ℕ → ℕ
mask_of os = foldl with 0 os

-- Returns 32 rows: for each thread the threads for which it truly waits.
unfoldable pub true_waits : List ℕ → Waits → List ℕ
true_waits counts w = each (λ r t. set r t (mask_of (blocking counts w (intent_of w t)))) (replicate THREADS 0) THREADS

-- Returns true if there is a path.
abbrev pub found : Option (List ℕ) → Bool
found None = false
found (Some p) = true

-- Returns true if there is a path to t from one of the threads us.
unfoldable pub any_back : List ℕ → ℕ → List ℕ → Bool
any_back rows t [] = false
any_back rows t (u ∷ us) = cond (found (find_path rows u t)) true (any_back rows t us)

-- Returns true if there is a path back to t from a thread for which it truly waits.
abbrev pub stuck_in : List ℕ → ℕ → Bool
stuck_in rows t = any_back rows t (upward THREADS (row rows t))

-- Returns how many threads are stuck.
unfoldable pub stuck_count : Tables → ℕ
stuck_count x = length (those (stuck_in (true_waits x.rwlock_readers x.waits)) THREADS)

-- Returns how many edges the rows have.
unfoldable pub edge_count : List ℕ → ℕ
edge_count rows = each (λ n t. n + ones (row rows t)) 0 THREADS
