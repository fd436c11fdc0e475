-- What the events that may report are made of.
use Rattle.std.specs.Prelude.{List, Bool, false, cond, ℕ, eqb, Option, None, Some}
use Rattle.sets.specs.Limits.{NOBODY}
use Rattle.waits.specs.Tables.{writer_of}
use Rattle.waits.specs.Waiting.{Linking, register, refresh}
use Rattle.waits.specs.Filter.{nobody_reads, passes}
use Rattle.waits.specs.Report.{Judging, quiet}
use Rattle.waits.specs.Validate.{validate}
use Rattle.waits.specs.declared.tables.Waits.{Waits}
use Rattle.waits.specs.declared.intent.WaitIntent.{WaitIntent}
use Rattle.waits.specs.declared.intent.WaitMode.{WaitMode}
use Rattle.waits.specs.declared.intent.WaitMode.TheVariants.{Mutex, RwRead, RwWrite}

-- Validates a path. If there is none, nothing is reported.
abbrev pub judge_found : List ℕ → Waits → Option (List ℕ) → Judging
judge_found counts w None = quiet w
judge_found counts w (Some p) = validate counts w p

-- Validates the path that registering or refreshing found.
abbrev pub judge : List ℕ → Linking → Judging
judge counts s = judge_found counts s.waits s.found

-- Filters a path, and validates it if it passes. If there is none or it does not pass, nothing is reported.
abbrev pub sieve_found : List ℕ → Waits → Option (List ℕ) → Judging
sieve_found counts w None = quiet w
sieve_found counts w (Some p) = cond (passes counts w p) (validate counts w p) (quiet w)

-- Filters the path that registering found, and validates it if it passes.
abbrev pub sieve : List ℕ → Linking → Judging
sieve counts s = sieve_found counts s.waits s.found

-- Refreshes l's waiters, and validates a path that the refresh finds.
unfoldable pub settle : List ℕ → Waits → ℕ → Judging
settle counts w l = judge counts (refresh counts w l)

-- Registers t with the intent i, and validates a path that is found. The filter is not asked.
unfoldable pub block : List ℕ → Waits → ℕ → WaitIntent → Judging
block counts w t i = judge counts (register counts w t i)

-- Returns the intent for the mutex l.
abbrev pub mutex_on : ℕ → WaitIntent
mutex_on l = record { lock_id = l; mode = Mutex }

-- Registers t with the intent for the mutex l, filters a path that is found, and validates it if it passes.
unfoldable pub block_mutex : List ℕ → Waits → ℕ → ℕ → Judging
block_mutex counts w t l = sieve counts (register counts w t (mutex_on l))

-- Returns the intent to read l.
abbrev pub read_on : ℕ → WaitIntent
read_on l = record { lock_id = l; mode = RwRead }

-- Returns the intent to write l.
abbrev pub write_on : ℕ → WaitIntent
write_on l = record { lock_id = l; mode = RwWrite }

-- Returns true if l has neither a reader nor a writer.
abbrev pub free : List ℕ → Waits → ℕ → Bool
free counts w l = cond (nobody_reads counts l) (eqb (writer_of w l) NOBODY) false

-- Registers t with the intent to write l, and validates a path that is found. The filter is not asked. If l is free,
-- nothing changes, and t keeps the intent it had.
unfoldable pub block_write : List ℕ → Waits → ℕ → ℕ → Judging
block_write counts w t l = cond (free counts w l) (quiet w) (block counts w t (write_on l))

-- Returns the result of a blocked attempt of t on l, by its mode.
abbrev pub block_for : WaitMode → List ℕ → Waits → ℕ → ℕ → Judging
block_for Mutex counts w t l = block_mutex counts w t l
block_for RwRead counts w t l = block counts w t (read_on l)
block_for RwWrite counts w t l = block_write counts w t l
