-- What a state of the code stands for, and what makes it valid.
use Rattle.std.specs.Prelude.{◌≡◌, List, [], map, Bool, false, cond, ℕ, ◌<◌, ◌≤◌, ltb, eqb, get_or, length, take}
use Rattle.sets.specs.Limits.{THREADS, LOCKS}
use Rattle.detector.specs.Limits.{CONDVARS, NONE, PLACES}
use Rattle.sets.specs.Below.{every}
use Rattle.waits.specs.Tables.{InRange, intent_of, lock_of, owner_of, writer_of}
use Rattle.waits.specs.declared.tables.Waits.{Waits}
use Rattle.detector.specs.Tables.{Tables, no_pair, blank_cv_wait}
use Rattle.detector.specs.declared.state.Detector.{Detector}
use Rattle.detector.specs.declared.state.Queue.{Queue}
use Rattle.detector.specs.declared.state.Pair.{Pair}
use Rattle.detector.specs.declared.state.CvWait.{CvWait}

-- MEANING
-- Returns the pairs of a queue, in order.
abbrev pub pairs_of : Queue → List Pair
pairs_of q = take q.len q.pairs

-- Returns the tables that a state stands for: its own tables, but with each queue as a list of pairs.
abbrev pub tables : Detector → Tables
tables d =
    record {
      waits = d.waits;
      rwlock_readers = d.rwlock_readers;
      cv_waiters = map pairs_of d.condvars.cv_waiters;
      thread_wait_cv = d.condvars.thread_wait_cv;
      cv_woken = d.cv_woken;
    }

-- VALIDITY
-- Stands for what is read outside the table of queues.
abbrev pub blank_queue : Queue
blank_queue = record { pairs = []; len = 0 }

-- States that a queue is valid: at most 32 pairs, threads and locks in range, and 0 at the places after its end.
pub record Queued (q : Queue) : Type 0 where
  pub long : q.len ≤ PLACES
  pub cells : length q.pairs ≡ PLACES
  pub threads : (k : ℕ) → (get_or q.pairs k no_pair).thread < THREADS
  pub locks : (k : ℕ) → (get_or q.pairs k no_pair).lock < LOCKS
  pub unused : (k : ℕ) → q.len ≤ k → get_or q.pairs k no_pair ≡ no_pair

-- States that a cv wait is valid: condvar and lock in range, and the lock 0 if the condvar is none.
pub record ValidCvWait (v : CvWait) : Type 0 where
  pub condvar : v.condvar ≤ NONE
  pub lock : v.lock < LOCKS
  pub absent : v.condvar ≡ NONE → v.lock ≡ 0

-- States that a state is valid: numbers in range, no queue too long, and 0 at every place not in use.
pub record Valid (d : Detector) : Type 0 where
  pub waits : InRange d.waits
  pub queues : (c : ℕ) → c < CONDVARS → Queued (get_or d.condvars.cv_waiters c blank_queue)
  pub cv_waits : (t : ℕ) → ValidCvWait (get_or d.condvars.thread_wait_cv t blank_cv_wait)

-- THE SAME AS A TEST
-- Returns true if the intents, the owners and the writers are in range.
unfoldable pub range_test : Waits → Bool
range_test w =
    cond (every (λ t. ltb (lock_of (intent_of w t)) LOCKS) THREADS)
    (cond (every (λ l. ltb (owner_of w l) 33) LOCKS) (every (λ l. ltb (writer_of w l) 33) LOCKS) false)
    false

-- Returns true if the pair p may be at place k of a queue of n pairs: in range before the queue's end, 0 after it.
abbrev pub place_test : ℕ → ℕ → Pair → Bool
place_test n k p =
    cond (ltb k n)
    (cond (ltb p.thread THREADS) (ltb p.lock LOCKS) false)
    (cond (eqb p.thread 0) (eqb p.lock 0) false)

-- Returns true if a queue is valid.
unfoldable pub queue_test : Queue → Bool
queue_test q = cond (ltb q.len 33) (every (λ k. place_test q.len k (get_or q.pairs k no_pair)) PLACES) false

-- Returns true if a cv wait is valid.
abbrev pub cv_wait_test : CvWait → Bool
cv_wait_test v = cond (eqb v.condvar NONE) (eqb v.lock 0) (cond (ltb v.condvar CONDVARS) (ltb v.lock LOCKS) false)

-- Returns true if a state is valid. A step gets refusal 2 exactly when this is false.
unfoldable pub valid_test : Detector → Bool
valid_test d =
    cond (range_test d.waits)
    (cond (every (λ c. queue_test (get_or d.condvars.cv_waiters c blank_queue)) CONDVARS)
    (every (λ t. cv_wait_test (get_or d.condvars.thread_wait_cv t blank_cv_wait)) THREADS) false)
    false
