-- FILTER. A cycle passes unless some lock without readers is in the holds of every thread of the cycle.
use Rattle.std.specs.Prelude.{List, [], ◌∷◌, Bool, true, false, cond, ℕ}
use Rattle.sets.specs.Limits.{LOCKS}
use Rattle.sets.specs.Sets.{has}
use Rattle.sets.specs.Below.{those}
use Rattle.waits.specs.Tables.{holds_of}
use Rattle.waits.specs.Counts.{readers}
use Rattle.waits.specs.declared.tables.Waits.{Waits}

-- Returns true if the list is empty.
abbrev pub nothing : List ℕ → Bool
nothing [] = true
nothing (x ∷ l) = false

-- Returns true if l is in the holds of every thread of p.
unfoldable pub all_hold : Waits → List ℕ → ℕ → Bool
all_hold w [] l = true
all_hold w (t ∷ p) l = cond (has (holds_of w t) l) (all_hold w p l) false

-- Returns true if l has no readers.
abbrev pub nobody_reads : List ℕ → ℕ → Bool
nobody_reads counts l = nothing (readers counts l)

-- Returns the locks without readers that are in the holds of every thread of p, upward.
unfoldable pub common_locks : List ℕ → Waits → List ℕ → List ℕ
common_locks counts w p = those (λ l. cond (all_hold w p l) (nobody_reads counts l) false) LOCKS

-- Returns true if the cycle p passes the filter.
abbrev pub passes : List ℕ → Waits → List ℕ → Bool
passes counts w p = nothing (common_locks counts w p)
