-- WHAT THE CODE'S TYPES SAY of a state, valid or not: how long its tables are, and how large their numbers can be. That
-- every state of the code is so is proved by `typed` (src/types.rt).
use Rattle.std.specs.Prelude.{◌≡◌, List, ℕ, ◌<◌, ◌^◌, get_or, length}
use Rattle.sets.specs.Limits.{THREADS, LOCKS}
use Rattle.detector.specs.Limits.{CONDVARS, PLACES}
use Rattle.waits.specs.Counts.{COUNTS}
use Rattle.waits.specs.Tables.{intent_of, lock_of}
use Rattle.detector.specs.Tables.{no_pair, blank_cv_wait}
use Rattle.detector.specs.State.{blank_queue}
use Rattle.detector.specs.declared.state.Detector.{Detector}
use Rattle.detector.specs.declared.state.Queue.{Queue}
use Rattle.detector.specs.declared.state.CvWait.{CvWait}

-- States that l has n numbers, each below max, as [u8; n], [u32; n] and [u64; n] have.
pub record Table (l : List ℕ) (n max : ℕ) : Type 0 where
  pub long : length l ≡ n
  pub small : (i : ℕ) → get_or l i 0 < max

-- States that a queue is 32 pairs of bytes, and a byte for its length.
pub record TypedQueue (q : Queue) : Type 0 where
  pub long : length q.pairs ≡ PLACES
  pub threads : (k : ℕ) → (get_or q.pairs k no_pair).thread < 256
  pub locks : (k : ℕ) → (get_or q.pairs k no_pair).lock < 256
  pub len : q.len < 256

-- States that a cv wait is two bytes.
pub record TypedCvWait (v : CvWait) : Type 0 where
  pub condvar : v.condvar < 256
  pub lock : v.lock < 256

-- States what the types say of a state.
pub record Typed (d : Detector) : Type 0 where
  pub edges : Table d.waits.wait_for_graph.edges THREADS (2 ^ 32)
  pub incoming : Table d.waits.wait_for_graph.incoming_edges THREADS (2 ^ 32)
  pub slots : length d.waits.thread_waits_for ≡ THREADS
  pub intents : (t : ℕ) → lock_of (intent_of d.waits t) < 256
  pub waiters : Table d.waits.lock_waiters LOCKS (2 ^ 32)
  pub holds : Table d.waits.thread_holds THREADS (2 ^ 64)
  pub owners : Table d.waits.mutex_owners LOCKS 256
  pub writers : Table d.waits.rwlock_writer LOCKS 256
  pub woken : d.cv_woken < 2 ^ 32
  pub readers : Table d.rwlock_readers COUNTS 256
  pub queues : length d.condvars.cv_waiters ≡ CONDVARS
  pub places : (c : ℕ) → c < CONDVARS → TypedQueue (get_or d.condvars.cv_waiters c blank_queue)
  pub cv_places : length d.condvars.thread_wait_cv ≡ THREADS
  pub cv_waits : (t : ℕ) → TypedCvWait (get_or d.condvars.thread_wait_cv t blank_cv_wait)
