-- DEMAND 3, first half. Whatever events come after the empty state, each cycle is true when it is reported: its
-- threads are all different, and each awaits the lock that stands with it in the report, of which the next
-- thread, or for the last thread the first, is an owner that blocks this wait.
use Rattle.std.specs.Prelude.{◌≡◌, ◌⊎◌, ◌↔◌, List, [], ◌∷◌, map, true, ℕ, ◌<◌, length, take}
use Rattle.std.specs.Prelude.{Option, Some}
use Rattle.sets.specs.Limits.{THREADS, LOCKS}
use Rattle.sets.specs.Lists.{In, Distinct}
use Rattle.sets.specs.Sets.{has}
use Rattle.graph.specs.Ways.{Ring, Cycle}
use Rattle.graph.specs.Graph.{Edge}
use Rattle.waits.specs.Tables.{intent_of, holds_of, owner_of, writer_of, own}
use Rattle.waits.specs.Counts.{count_of}
use Rattle.waits.specs.Owners.{owners}
use Rattle.waits.specs.Waiting.{register}
use Rattle.waits.specs.Validate.{names}
use Rattle.waits.specs.Attempt.{mutex_on}
use Rattle.waits.specs.Report.{Report, Entry, entries_of, written}
use Rattle.waits.specs.Promises.{laid}
use Rattle.waits.specs.declared.tables.Waits.{Waits}
use Rattle.waits.specs.declared.intent.WaitIntent.{WaitIntent}
use Rattle.waits.specs.declared.outcome.Outcome.{Outcome}
use Rattle.waits.specs.declared.outcome.Outcome.TheVariants.{Took, Blocked, Hinted}
use Rattle.detector.specs.Tables.{Tables, queue_of}
use Rattle.detector.specs.Condvar.{wake_all}
use Rattle.detector.specs.Refusals.{refusal}
use Rattle.detector.specs.State.{tables}
use Rattle.detector.specs.Numbered.{refused_by, reports_of}
use Rattle.detector.specs.Promises.{Steps}
use Rattle.detector.specs.Stuck.{Truly}
use Rattle.detector.specs.declared.event.Event.{Event}
use Rattle.detector.specs.declared.event.Event.TheVariants.{MutexAttempt, RwReadAttempt, RwWriteAttempt, CondvarNotifyAll}
use Rattle.detector.specs.declared.state.Detector.{Detector}
use Rattle.detector.specs.Effects.{effect}
use Rattle.demands.specs.Reached.{Reached}
use Rattle.demands.specs.Driven.{Call, Stepped, Back, Driven, Starts}

-- A TRUE CYCLE in waits w with reader counts. States that the thread of the entry p has an intent that names
-- its lock, and that o is among the owners that block this intent (mutex owner, writer, readers). Owning is not
-- holding: what `thread_holds` has does not count.
pub record Blocks (counts : List ℕ) (w : Waits) (p : Entry) (o : ℕ) : Type 0 where
  pub intent : WaitIntent
  pub awaits : intent_of w p.thread ≡ Some intent
  pub beside : intent.lock_id ≡ p.lock
  pub owns : In o (owners counts w intent)

-- States that the entries ps are a true cycle.
pub record TrueCycle (counts : List ℕ) (w : Waits) (ps : List Entry) : Type 0 where
  pub once : Distinct (map (λ p. p.thread) ps)
  pub closed : Ring (λ p q. Blocks counts w p q.thread) ps

-- THE STATE IN WHICH A CYCLE IS TRUE is that of its last validation. Returns the waits after ca on the condvar
-- c has treated the first n pairs of the queue.
abbrev pub treated : Tables → ℕ → ℕ → Waits
treated x c n = (wake_all x.rwlock_readers (record { waits = x.waits; woken = x.cv_woken; reports = [] }) (take n (queue_of x c))).waits

-- States that w are the waits after the event e, or, for ca, those after some of the pairs were treated.
abbrev pub Through : Tables → Event → Tables → Waits → Type 0
Through x e y w = (w ≡ y.waits) ⊎ ((c : ℕ) × (n : ℕ) × (e ≡ CondvarNotifyAll c) × (w ≡ treated x c n))

-- States that the report r of the event e is true, with tables x before the event and y after it. Its bytes are
-- those of the same entries: `bytes_of` (crate `waits`, specs/Report.antt).
pub record TrueReport (x : Tables) (e : Event) (y : Tables) (r : Report) : Type 0 where
  pub cycle : TrueCycle y.rwlock_readers r.state (entries_of r)
  pub through : Through x e y r.state

-- States that P holds of all reports in the list.
abbrev pub Each : (Report → Type 0) → List Report → Type 0
Each P [] = Unit
Each P (r ∷ rs) = P r × Each P rs

-- THE FIRST HALF (`first_half`) states that all reports are true, for every event and every length of the
-- report buffer.
abbrev pub FirstHalf : Type 0
FirstHalf = (x : Tables) (room : ℕ) (e : Event) → Reached x → Each (TrueReport x e (effect x room e).tables) (effect x room e).reports

-- ---- DEMAND 3, second half
-- Let a reached state have its true waits as edges and no others, and let an attempt be blocked with no hint,
-- with the recorded owner as its hint, or with any hint on a lock that no other thread awaits. It is reported
-- if and only if the true waits after it have a cycle.

-- One case is excepted: a mutex attempt is not reported if the threads of the cycle that the rules find all
-- hold one lock that nobody reads.

-- States that the edges are exactly the true waits.
abbrev pub Exact : Tables → Type 0
Exact x = (a b : ℕ) → a < THREADS → b < THREADS → Edge x.waits.wait_for_graph.edges a b ↔ Truly x a b

-- States that no thread but t awaits the lock l. To await a lock is to have an intent that names it;
-- `lock_waiters` may lack a thread that has one.
abbrev pub Alone : Tables → ℕ → ℕ → Type 0
Alone x t l = (a : ℕ) → names (intent_of x.waits a) l ≡ true → a ≡ t

-- States that the attempt is blocked, and that its hint is one that the demand allows. An accepted hint is
-- below 32, so it is the recorded owner only if there is one.
abbrev pub Apt : Tables → ℕ → ℕ → ℕ → Outcome → Type 0
Apt x recorded t l Took = ⊥
Apt x recorded t l Blocked = Unit
Apt x recorded t l (Hinted o) = (o ≡ recorded) ⊎ Alone x t l

-- Returns the waits with the hint recorded as the owner of the mutex l.
abbrev pub with_hint : Waits → ℕ → Outcome → Waits
with_hint w l Took = w
with_hint w l Blocked = w
with_hint w l (Hinted o) = own w o l

-- Returns the cycle that the rules find for a mutex attempt: the path that registering gives.
abbrev pub path_found : Tables → ℕ → ℕ → Outcome → Option (List ℕ)
path_found x t l o = (register x.rwlock_readers (with_hint x.waits l o) t (mutex_on l)).found

-- States that all threads of p hold one lock that nobody reads.
pub record Shared (counts : List ℕ) (w : Waits) (p : List ℕ) : Type 0 where
  pub lock : ℕ
  pub inside : lock < LOCKS
  pub held : (t : ℕ) → In t p → has (holds_of w t) lock ≡ true
  pub nobody_reads : (t : ℕ) → t < THREADS → count_of counts t lock ≡ 0

-- States that a cycle was found and that its threads share such a lock, in the tables y after the event.
abbrev pub Spared : Tables → ℕ → ℕ → Outcome → Tables → Type 0
Spared x t l o y = (p : List ℕ) × (path_found x t l o ≡ Some p) × Shared y.rwlock_readers y.waits p

-- The type of what is demanded of an attempt by t on l with the outcome o in tables x that gives n reports and
-- tables y. The true waits that count are those in y.
abbrev pub Converse : Type 1
Converse = Tables → ℕ → ℕ → Outcome → ℕ → Tables → Type 0

-- States the second half of a mutex attempt.
abbrev pub MutexConverse : Converse
MutexConverse x t l o n y = Apt x (owner_of x.waits l) t l o → (0 < n) ↔ (Cycle (Truly y) × (Spared x t l o y → ⊥))

-- States the second half of an attempt to read or to write, for which the recorded owner is the writer.
abbrev pub RwConverse : Converse
RwConverse x t l o n y = Apt x (writer_of x.waits l) t l o → (0 < n) ↔ Cycle (Truly y)

-- States this of every attempt that is not refused.
abbrev pub Attempted : Converse → (ℕ → ℕ → Outcome → Event) → Type 0
Attempted Holds event =
    (x : Tables) (room t l : ℕ) (o : Outcome) → Reached x → Exact x → refusal x room (event t l o) ≡ 0
    → Holds x t l o (length (effect x room (event t l o)).reports) (effect x room (event t l o)).tables

-- THE SECOND HALF (`second_half`) states this of each of the three attempts.
pub record SecondHalf : Type 0 where
  pub mutex : Attempted MutexConverse MutexAttempt
  pub read : Attempted RwConverse RwReadAttempt
  pub write : Attempted RwConverse RwWriteAttempt

-- CARRIED TO THE CODE: states that the reports that a call gave back are true ones, in number and in bytes.
pub record TrueReports (d : Detector) (ev : Event) (r : Stepped) (b e : List ℕ) : Type 0 where
  pub reports : List Report
  pub count : reports_of r.reply ≡ length reports
  pub bytes : e ≡ laid b 0 (written reports)
  pub each : Each (TrueReport (tables d) ev (tables r.detector)) reports

-- States this of every call in a state that is fed from the empty one (`reports_true`).
abbrev pub ReportsTrue : Type 0
ReportsTrue =
    (d₀ d : Detector) (ks : List Call) (bs : List Back) → Starts d₀ → Driven d₀ ks bs d
    → (ev : Event) (r : Stepped) (b e : List ℕ) → Steps d ev r.detector r.reply b e → TrueReports d ev r b e

-- States the second half of what `step` returns in such a state.
abbrev pub Called : Converse → (ℕ → ℕ → Outcome → Event) → Type 0
Called Holds event =
    (d₀ d : Detector) (ks : List Call) (bs : List Back) → Starts d₀ → Driven d₀ ks bs d → Exact (tables d)
    → (t l : ℕ) (o : Outcome) (r : Stepped) (b e : List ℕ) → Steps d (event t l o) r.detector r.reply b e → refused_by r.reply ≡ 0
    → Holds (tables d) t l o (reports_of r.reply) (tables r.detector)

-- States this of each of the three attempts (`converse`).
pub record CalledHalf : Type 0 where
  pub mutex : Called MutexConverse MutexAttempt
  pub read : Called RwConverse RwReadAttempt
  pub write : Called RwConverse RwWriteAttempt
