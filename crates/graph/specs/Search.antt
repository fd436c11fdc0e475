-- The search for a path from b to a goes breadth first and takes the neighbours of a thread from the lowest number up.
-- A thread that is met again keeps the parent it was first found from.
use mathlib.Core.List.{List, [], ◌∷◌, ◌++◌, foldl}
use Rattle.std.specs.Prelude.{cond, ℕ, zero, suc, get_or, length, ltb, eqb, Option, None, Some}
use Rattle.sets.specs.Limits.{THREADS}
use Rattle.sets.specs.Sets.{has, with, upward}

-- Returns row i of a table of sets.
abbrev pub row : List ℕ → ℕ → ℕ
row t i = get_or t i 0

-- The threads found in the order in which they were found; for each the place of its parent, the thread it was found
-- from; and all of them as a set.
pub record Trail : Type 0 where
  pub threads : List ℕ
  pub parents : List ℕ
  pub seen : ℕ

-- Adds the thread n, met among the neighbours of the thread at the place p, unless it was found before.
unfoldable pub visit : ℕ → Trail → ℕ → Trail
visit p s n =
    cond (has s.seen n)
    s
    (record { threads = s.threads ++ (n ∷ []); parents = s.parents ++ (p ∷ []); seen = with s.seen n })

-- Visits all neighbours m of the thread at the place p, upward.
unfoldable pub expand : ℕ → Trail → ℕ → Trail
expand p s m = foldl (visit p) s (upward THREADS m)

-- Returns the threads from the first to the one at the place k, then acc. It follows at most f parents.
unfoldable pub way_back : ℕ → Trail → ℕ → List ℕ → List ℕ
way_back zero s k acc = get_or s.threads k 0 ∷ acc
way_back (suc f) s zero acc = get_or s.threads 0 0 ∷ acc
way_back (suc f) s (suc k) acc = way_back f s (get_or s.parents (suc k) 0) (get_or s.threads (suc k) 0 ∷ acc)

-- Takes the threads found in order, from the place p on, and expands each until it meets the thread a. Returns the path
-- to a, or none if no thread is left or f turns are over.
unfoldable pub search : ℕ → List ℕ → ℕ → ℕ → Trail → Option (List ℕ)
search zero rows a p s = None
search (suc f) rows a p s =
    let x : ℕ = get_or s.threads p 0 in
    let on : Option (List ℕ) = search f rows a (suc p) (expand p s (row rows x)) in
    cond (ltb p (length s.threads)) (cond (eqb x a) (Some (way_back 31 s p [])) on) None

-- Returns the trail that has found the thread b alone.
abbrev pub begun : ℕ → Trail
begun b = record { threads = b ∷ []; parents = 0 ∷ []; seen = with 0 b }

-- Returns a path from b to a along the rows, or none. For 32 rows, 32 turns are enough (theorem `turns_enough`).
unfoldable pub find_path : List ℕ → ℕ → ℕ → Option (List ℕ)
find_path rows b a = search THREADS rows a 0 (begun b)
