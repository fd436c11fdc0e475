-- REFUSALS 3 TO 8 of an event. The lowest number is given, and 0 stands for none.
use Rattle.std.specs.Prelude.{cond, ℕ, ◌*◌, ◌<◌, ◌≤◌, ltb, eqb, length}
use Rattle.sets.specs.Limits.{THREADS, LOCKS}
use Rattle.detector.specs.Limits.{CONDVARS, PLACES}
use Rattle.waits.specs.Counts.{count_of}
use Rattle.waits.specs.Report.{report_bytes}
use Rattle.waits.specs.declared.outcome.Outcome.{Outcome}
use Rattle.waits.specs.declared.outcome.Outcome.TheVariants.{Took, Blocked, Hinted}
use Rattle.waits.specs.declared.outcome.Tried.{Tried}
use Rattle.waits.specs.declared.outcome.Tried.TheVariants.{Taken, Missed}
use Rattle.detector.specs.Tables.{Tables, queue_of}
use Rattle.detector.specs.declared.event.Event.{Event}
use Rattle.detector.specs.declared.event.Event.TheVariants.{MutexAttempt, MutexAcquired, MutexReleased, MutexExit, RwReadAttempt, RwReadAcquired, RwReadTry, RwReadReleased, RwWriteAttempt, RwWriteAcquired, RwWriteReleased, RwExit, CondvarSpawn, CondvarExit, CondvarWaitBegin, CondvarNotifyOne, CondvarNotifyAll, CondvarWaitEnd}

-- THE NUMBERS OF AN EVENT
-- Returns the thread that a hint names, or 0 if there is no hint.
abbrev pub hint_of : Outcome → ℕ
hint_of Took = 0
hint_of Blocked = 0
hint_of (Hinted o) = o

-- The numbers of an event. Those that it does not have are 0.
pub record Numbers : Type 0 where
  pub thread : ℕ
  pub hint : ℕ
  pub lock : ℕ
  pub condvar : ℕ

-- Returns these four numbers as those of an event.
abbrev pub numbers : ℕ → ℕ → ℕ → ℕ → Numbers
numbers t h l c = record { thread = t; hint = h; lock = l; condvar = c }

-- Returns the numbers of an event.
abbrev pub numbers_of : Event → Numbers
numbers_of (MutexAttempt t l o) = numbers t (hint_of o) l 0
numbers_of (MutexAcquired t l) = numbers t 0 l 0
numbers_of (MutexReleased t l) = numbers t 0 l 0
numbers_of (MutexExit l) = numbers 0 0 l 0
numbers_of (RwReadAttempt t l o) = numbers t (hint_of o) l 0
numbers_of (RwReadAcquired t l) = numbers t 0 l 0
numbers_of (RwReadTry t l o) = numbers t 0 l 0
numbers_of (RwReadReleased t l) = numbers t 0 l 0
numbers_of (RwWriteAttempt t l o) = numbers t (hint_of o) l 0
numbers_of (RwWriteAcquired t l) = numbers t 0 l 0
numbers_of (RwWriteReleased t l) = numbers t 0 l 0
numbers_of (RwExit l) = numbers 0 0 l 0
numbers_of (CondvarSpawn c) = numbers 0 0 0 c
numbers_of (CondvarExit c) = numbers 0 0 0 c
numbers_of (CondvarWaitBegin t c l) = numbers t 0 l c
numbers_of (CondvarNotifyOne c) = numbers 0 0 0 c
numbers_of (CondvarNotifyAll c) = numbers 0 0 0 c
numbers_of (CondvarWaitEnd t c l) = numbers t 0 l c

-- The bytes that the buffer must have, 2,080: room for 32 of the longest reports.
abbrev pub buffer_bytes : ℕ
buffer_bytes = PLACES * report_bytes

-- Returns 3 if the thread or the hint is above 31, else 4 if the lock is above 63, else 5 if the condvar is above 15,
-- else 6 if the room in the buffer is below 2,080 bytes, else `next`.
unfoldable pub outside : Numbers → ℕ → ℕ → ℕ
outside n room next =
    cond (ltb 31 n.thread) 3
    (cond (ltb 31 n.hint) 3
    (cond (ltb 63 n.lock) 4
    (cond (ltb 15 n.condvar) 5
    (cond (ltb room buffer_bytes) 6 next))))

-- Returns 7 if the queue of c is full, or 0.
abbrev pub full_queue : Tables → ℕ → ℕ
full_queue x c = cond (ltb (length (queue_of x c)) PLACES) 0 7

-- Returns 8 if t's count for l is at its limit of 255, or 0.
abbrev pub full_count : Tables → ℕ → ℕ → ℕ
full_count x t l = cond (eqb (count_of x.rwlock_readers t l) 255) 8 0

-- Returns 8 if the attempt took the lock and t's count for l is at its limit, or 0.
abbrev pub full_attempt : Tables → ℕ → ℕ → Outcome → ℕ
full_attempt x t l Took = full_count x t l
full_attempt x t l Blocked = 0
full_attempt x t l (Hinted o) = 0

-- Returns 8 if the try took the lock and t's count for l is at its limit, or 0.
abbrev pub full_try : Tables → ℕ → ℕ → Tried → ℕ
full_try x t l Taken = full_count x t l
full_try x t l Missed = 0

-- Returns 7 or 8 if the event needs room in a queue or in a count that is full, or 0.
abbrev pub full : Tables → Event → ℕ
full x (RwReadAttempt t l o) = full_attempt x t l o
full x (RwReadAcquired t l) = full_count x t l
full x (RwReadTry t l o) = full_try x t l o
full x (CondvarWaitBegin t c l) = full_queue x c
full x (MutexAttempt t l o) = 0
full x (MutexAcquired t l) = 0
full x (MutexReleased t l) = 0
full x (MutexExit l) = 0
full x (RwReadReleased t l) = 0
full x (RwWriteAttempt t l o) = 0
full x (RwWriteAcquired t l) = 0
full x (RwWriteReleased t l) = 0
full x (RwExit l) = 0
full x (CondvarSpawn c) = 0
full x (CondvarExit c) = 0
full x (CondvarNotifyOne c) = 0
full x (CondvarNotifyAll c) = 0
full x (CondvarWaitEnd t c l) = 0

-- Returns the lowest refusal that the event gets with a buffer of room bytes, or 0 if it is accepted.
unfoldable pub refusal : Tables → ℕ → Event → ℕ
refusal x room e = outside (numbers_of e) room (full x e)

-- States that the numbers of an event are in range, and that a buffer of this size is large enough.
pub record Inside (n : Numbers) (size : ℕ) : Type 0 where
  pub thread : n.thread < THREADS
  pub hint : n.hint < THREADS
  pub lock : n.lock < LOCKS
  pub condvar : n.condvar < CONDVARS
  pub room : buffer_bytes ≤ size
