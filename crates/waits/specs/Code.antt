-- What the code's results and masks stand for.
use mathlib.Core.List.{List, [], ◌∷◌, foldl}
use Rattle.std.specs.Prelude.{Bool, true, false, cond, ℕ, ltb, Option, None, Some}
use Rattle.std.specs.Int.Bits.{bit_and}
use Rattle.sets.specs.Limits.{THREADS}
use Rattle.sets.specs.Sets.{with}
use Rattle.graph.specs.Search.{row}
use Rattle.waits.specs.Tables.{intent_of}
use Rattle.waits.specs.Waiting.{Linking}
use Rattle.waits.specs.Filter.{nobody_reads, passes}
use Rattle.waits.specs.Report.{Judging, quiet, reporting}
use Rattle.waits.specs.Attempt.{free}
use Rattle.waits.specs.declared.tables.Waits.{Waits}
use Rattle.waits.specs.declared.intent.WaitIntent.{WaitIntent}
use Rattle.waits.specs.declared.intent.WaitMode.{WaitMode}
use Rattle.waits.specs.declared.intent.WaitMode.TheVariants.{Mutex, RwRead, RwWrite}
use Rattle.waits.specs.declared.outcome.Outcome.{Outcome}
use Rattle.waits.specs.declared.outcome.Outcome.TheVariants.{Took, Blocked}
use Rattle.waits.specs.declared.outcome.Tried.{Tried}
use Rattle.waits.specs.declared.outcome.Tried.TheVariants.{Taken, Missed}

-- RESULTS
-- Returns the tables after registering or refreshing, with the path found.
abbrev pub linked : Waits → Option (List ℕ) → Linking
linked w o = record { waits = w; found = o }

-- Returns the tables after a path was judged, with a report of the cycle that is to be reported, if there is one.
abbrev pub judged : Waits → Option (List ℕ) → Judging
judged w None = quiet w
judged w (Some p) = reporting w p

-- Returns the thread that a table of owners or writers names, or None for nobody.
abbrev pub named : ℕ → Option ℕ
named o = cond (ltb o THREADS) (Some o) None

-- MODES
-- Returns true if an attempt in this mode has nothing to wait for: it is a write, and the lock is free.
abbrev pub free_for : WaitMode → List ℕ → Waits → ℕ → Bool
free_for Mutex counts w l = false
free_for RwRead counts w l = false
free_for RwWrite counts w l = free counts w l

-- Returns true if a path may be validated: one found for a mutex must pass the filter, any other always may.
abbrev pub passes_for : WaitMode → List ℕ → Waits → List ℕ → Bool
passes_for Mutex counts w p = passes counts w p
passes_for RwRead counts w p = true
passes_for RwWrite counts w p = true

-- OUTCOMES
-- Returns the outcome that a read that is only tried stands for.
abbrev pub as_outcome : Tried → Outcome
as_outcome Taken = Took
as_outcome Missed = Blocked

-- MASKS
-- Returns the locks of m that are in the holds of every thread of p.
unfoldable pub common_mask : List ℕ → ℕ → List ℕ → ℕ
common_mask holds m [] = m
common_mask holds m (t ∷ p) = common_mask holds (bit_and m (row holds t)) p

-- Returns true if every lock of the list has a reader.
unfoldable pub all_read : List ℕ → List ℕ → Bool
all_read counts [] = true
all_read counts (l ∷ ls) = cond (nobody_reads counts l) false (all_read counts ls)

-- Returns the set m with the lock that the intent names added, or m if there is no intent.
abbrev pub with_awaited : ℕ → Option WaitIntent → ℕ
with_awaited m None = m
with_awaited m (Some i) = with m i.lock_id

-- Returns the set m with the locks that the threads of p await added.
unfoldable pub awaited_mask : Waits → ℕ → List ℕ → ℕ
awaited_mask w m p = foldl (λ s t. with_awaited s (intent_of w t)) m p
