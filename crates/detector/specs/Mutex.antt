-- The events of a mutex: ma, mc, mr, md.
use Rattle.std.specs.Prelude.{cond, ℕ, eqb, set}
use Rattle.sets.specs.Limits.{THREADS, NOBODY}
use Rattle.sets.specs.Below.{each}
use Rattle.waits.specs.Tables.{intent_of, owner_of, with_intents, own, hold, unhold}
use Rattle.waits.specs.Waiting.{clear, refresh}
use Rattle.waits.specs.Validate.{names}
use Rattle.waits.specs.Attempt.{settle, block_mutex}
use Rattle.waits.specs.declared.tables.Waits.{Waits}
use Rattle.waits.specs.declared.outcome.Outcome.{Outcome}
use Rattle.waits.specs.declared.outcome.Outcome.TheVariants.{Took, Blocked, Hinted}
use Rattle.detector.specs.Tables.{Tables, Effect, with_waits, silent, with_judging}

-- Adds l to t's holds and clears t's intent.
abbrev pub gain : Waits → ℕ → ℕ → Waits
gain w t l = clear (hold w t l) t

-- Makes t the owner of the mutex l, adds l to t's holds and clears t's intent.
unfoldable pub acquired : Waits → ℕ → ℕ → Waits
acquired w t l = gain (own w t l) t l

-- mc: t has the mutex l. Makes t its owner, adds l to t's holds, clears t's intent, refreshes l's waiters, and
-- validates a path that the refresh finds, without the filter.
unfoldable pub complete_acquire : Tables → ℕ → ℕ → Effect
complete_acquire x t l = with_judging x (settle x.rwlock_readers (acquired x.waits t l) l)

-- Registers t's intent for the mutex l in the waits w, filters a path that is found, and validates it if it passes.
unfoldable pub acquire_slow : Tables → Waits → ℕ → ℕ → Effect
acquire_slow x w t l = with_judging x (block_mutex x.rwlock_readers w t l)

-- ma: t attempts to take the mutex l, with the outcome o. If t took it, does as mc. If t was blocked, makes the hinted
-- thread, if any, the owner, registers t's intent, filters a path found, and validates it if it passes.
abbrev pub mutex_attempt : Tables → ℕ → ℕ → Outcome → Effect
mutex_attempt x t l Took = complete_acquire x t l
mutex_attempt x t l Blocked = acquire_slow x x.waits t l
mutex_attempt x t l (Hinted o) = acquire_slow x (own x.waits o l) t l

-- Makes nobody the owner of the mutex l if t was, and takes l out of t's holds.
unfoldable pub released : Waits → ℕ → ℕ → Waits
released w t l = unhold (cond (eqb (owner_of w l) t) (own w NOBODY l) w) t l

-- mr: t releases the mutex l. Makes nobody its owner if t was. In any case takes l out of t's holds and refreshes l's
-- waiters. A path that the refresh finds is dropped, so nothing is reported.
unfoldable pub release_mutex : Tables → ℕ → ℕ → Effect
release_mutex x t l = silent (with_waits x (refresh x.rwlock_readers (released x.waits t l) l).waits)

-- Clears the intent of every thread whose intent names l, in any mode.
unfoldable pub clear_naming : Waits → ℕ → Waits
clear_naming w l = each (λ v t. cond (names (intent_of w t) l) (clear v t) v) w THREADS

-- Takes l out of all holds.
unfoldable pub unhold_all : Waits → ℕ → Waits
unhold_all w l = each (λ v t. unhold v t l) w THREADS

-- Takes l out of all holds and empties its waiters.
unfoldable pub purge : Waits → ℕ → Waits
purge w l = let v = unhold_all w l in with_intents v v.thread_waits_for (set v.lock_waiters l 0)

-- md: the mutex l is gone. Makes nobody its owner, clears every intent that names l, takes l out of all holds, and
-- empties its waiters. Refreshes nothing.
unfoldable pub destroy_mutex : Tables → ℕ → Effect
destroy_mutex x l = silent (with_waits x (purge (clear_naming (own x.waits NOBODY l) l) l))
