-- WHAT HOLDS OF EVERY REACHED STATE. That in the code the cells after a queue's end hold 0 is `valid` in demand 2.
use Rattle.std.specs.Prelude.{Option}
use Rattle.waits.specs.declared.intent.WaitIntent.{WaitIntent}
use Rattle.std.specs.Prelude.{◌≡◌, List, [], ◌∷◌, true, ℕ, ◌<◌, ◌≤◌, ◌^◌, get_or, length}
use Rattle.sets.specs.Limits.{THREADS, LOCKS}
use Rattle.detector.specs.Limits.{CONDVARS, PLACES}
use Rattle.waits.specs.Counts.{COUNTS}
use Rattle.sets.specs.Sets.{has}
use Rattle.graph.specs.Search.{row}
use Rattle.graph.specs.Graph.{Good}
use Rattle.waits.specs.Tables.{intent_of, waiters_of, InRange}
use Rattle.waits.specs.Validate.{names}
use Rattle.waits.specs.declared.tables.Waits.{Waits}
use Rattle.detector.specs.Tables.{Tables, blank_cv_wait, queue_of}
use Rattle.detector.specs.State.{ValidCvWait}
use Rattle.detector.specs.Effects.{effect}
use Rattle.detector.specs.Brief.{Brief}
use Rattle.detector.specs.declared.event.Event.{Event}
use Rattle.detector.specs.declared.state.Pair.{Pair}
use Rattle.demands.specs.Reached.{Reached}

-- States that the tables have a cell for each of the 32 threads or of the 64 locks, and that their sets are
-- sets of threads and of locks.
pub record Shaped (slots : List (Option WaitIntent)) (waiters holds owners writers : List ℕ) : Type 0 where
  pub threads : length slots ≡ THREADS
  pub locks : length waiters ≡ LOCKS
  pub few : (l : ℕ) → row waiters l < 2 ^ 32
  pub holders : length holds ≡ THREADS
  pub held : (t : ℕ) → row holds t < 2 ^ 64
  pub owned : length owners ≡ LOCKS
  pub written : length writers ≡ LOCKS

-- States what holds of the waits in every reached state.
pub record Fine (w : Waits) : Type 0 where
  -- The two tables of edges agree, and no edges lead from a thread back to itself.
  pub graph : Good w.wait_for_graph
  -- A thread among the waiters of the lock l has an intent that names l.
  pub named : (t l : ℕ) → has (waiters_of w l) t ≡ true → names (intent_of w t) l ≡ true
  pub range : InRange w
  pub shaped : Shaped w.thread_waits_for w.lock_waiters w.thread_holds w.mutex_owners w.rwlock_writer

-- States that there is a reader count of at most 255 for each thread and lock.
pub record Counts (counts : List ℕ) : Type 0 where
  pub size : length counts ≡ COUNTS
  pub small : (k : ℕ) → get_or counts k 0 ≤ 255

-- States that every pair of a queue is in range.
abbrev pub Seated : List Pair → Type 0
Seated [] = Unit
Seated (p ∷ q) = (p.thread < THREADS) × (p.lock < LOCKS) × Seated q

-- States that P holds of the waits, and that the other tables are in their ranges.
pub record KeptWith (P : Waits → Type 0) (x : Tables) : Type 0 where
  pub waits : P x.waits
  pub counts : Counts x.rwlock_readers
  pub condvars : length x.cv_waiters ≡ CONDVARS
  pub queues : (c : ℕ) → length (queue_of x c) ≤ PLACES
  pub seated : (c : ℕ) → Seated (queue_of x c)
  pub cv_places : length x.thread_wait_cv ≡ THREADS
  pub cv_waits : (t : ℕ) → ValidCvWait (get_or x.thread_wait_cv t blank_cv_wait)
  pub woken : x.cv_woken < 2 ^ 32

-- States all that holds of the tables in every reached state.
abbrev pub Kept : Tables → Type 0
Kept = KeptWith Fine

-- THE THEOREMS. States that reached tables keep this (`reached_kept`).
abbrev pub ReachedKept : Type 0
ReachedKept = (x : Tables) → Reached x → Kept x

-- States that in reached tables an event gives few reports, and that the report buffer has room for them
-- (`reached_brief`).
abbrev pub ReachedBrief : Type 0
ReachedBrief = (x : Tables) (room : ℕ) (e : Event) → Reached x → Brief e (effect x room e).reports
