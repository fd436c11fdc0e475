-- What it means that an event is accepted, and which refusals there are.
use mathlib.Core.Path.{◌≡◌, refl, sym, ap, ◌∙◌}
use mathlib.Core.Bool.{Bool, true, false, cond}
use Prim.Native.Nat.{ℕ, ◌<◌, ◌≤◌}
use native.Mathlib.Omega.{arith}
use native.Mathlib.Decide.{dec_lt}
use lib.Dec.{ltb, eqb, lit≤}
use lib.ListN.{get_or, length, get_or-map}
use lib.Seq.{length-take-le}
use borrow.Author.Tests.{ltb-true, ltb-false, le-ltb}
use Rattle.waits.specs.Counts.{count_of}
use Rattle.waits.specs.declared.outcome.Outcome.TheVariants.{Took, Blocked, Hinted}
use Rattle.waits.specs.declared.outcome.Tried.TheVariants.{Taken, Missed}
use Rattle.detector.specs.Tables.{Tables, queue_of}
use Rattle.detector.specs.Refusals.{Numbers, Inside, numbers_of, outside, full_queue, full_count, full, refusal, buffer_bytes}
use Rattle.detector.specs.State.{tables, pairs_of, blank_queue, Valid}
use Rattle.detector.specs.declared.event.Event.{Event}
use Rattle.detector.specs.declared.event.Event.TheVariants.{MutexAttempt, MutexAcquired, MutexReleased, MutexExit, RwReadAttempt, RwReadAcquired, RwReadTry, RwReadReleased, RwWriteAttempt, RwWriteAcquired, RwWriteReleased, RwExit, CondvarSpawn, CondvarExit, CondvarWaitBegin, CondvarNotifyOne, CondvarNotifyAll, CondvarWaitEnd}
use Rattle.detector.specs.declared.state.Detector.{Detector}

-- Returns the lowest refusal of 3 to 6 whose test is true, or `next` if none is.
abbrev chosen : Bool → Bool → Bool → Bool → Bool → ℕ → ℕ
chosen t h l c r next = cond t 3 (cond h 3 (cond l 4 (cond c 5 (cond r 6 next))))

module _ (n : Numbers) (room : ℕ) where
  -- If the numbers are in range, they refuse nothing, and `next` decides.
  pub inside_next : (next : ℕ) → Inside n room → outside n room next ≡ next
  unfolding outside
  inside_next next i =
      rw (le-ltb 31 n.thread (omega (arith, i.thread)), le-ltb 31 n.hint (omega (arith, i.hint)), le-ltb 63 n.lock (omega (arith, i.lock)), le-ltb 15 n.condvar (omega (arith, i.condvar)), le-ltb room buffer_bytes i.room)

  -- States that the numbers are in range if k is 0, and that k is their refusal if it is above 0.
  Refusing : (k next : ℕ) → Type 0
  Refusing k next = ((k ≡ 0) → Inside n room) × ((0 < k) → outside n room next ≡ k)

  -- The refusal that the numbers alone give is such a k.
  cases : (next : ℕ) → Refusing (outside n room 0) next
  unfolding outside Refusing
  cases next = go (ltb 31 n.thread) (ltb 31 n.hint) (ltb 63 n.lock) (ltb 15 n.condvar) (ltb room buffer_bytes) refl refl refl refl refl
    where
      go : (t h l c r : Bool) → ltb 31 n.thread ≡ t → ltb 31 n.hint ≡ h → ltb 63 n.lock ≡ l → ltb 15 n.condvar ≡ c → ltb room buffer_bytes ≡ r
          → ((chosen t h l c r 0 ≡ 0) → Inside n room) × ((0 < chosen t h l c r 0) → chosen t h l c r next ≡ chosen t h l c r 0)
      go true h l c r p q s u v = (λ e. absurd (omega arith), λ e. refl)
      go false true l c r p q s u v = (λ e. absurd (omega arith), λ e. refl)
      go false false true c r p q s u v = (λ e. absurd (omega arith), λ e. refl)
      go false false false true r p q s u v = (λ e. absurd (omega arith), λ e. refl)
      go false false false false true p q s u v = (λ e. absurd (omega arith), λ e. refl)
      go false false false false false p q s u v = (
        λ e. record {
          thread = let k = ltb-false 31 n.thread p in omega arith;
          hint = let k = ltb-false 31 n.hint q in omega arith;
          lock = let k = ltb-false 63 n.lock s in omega arith;
          condvar = let k = ltb-false 15 n.condvar u in omega arith;
          room = ltb-false room buffer_bytes v;
        },
        λ e. absurd (omega arith),
      )

  -- If no number refuses, all are in range.
  pub inside : outside n room 0 ≡ 0 → Inside n room
  unfolding Refusing
  inside e = (cases 0).0 e

  -- If a number refuses, its refusal is given.
  pub outside_first : (next : ℕ) → 0 < outside n room 0 → outside n room next ≡ outside n room 0
  unfolding Refusing
  outside_first next h = (cases next).1 h

-- States that the numbers of an event are in range, and that nothing it needs is full.
pub record Accepted (x : Tables) (room : ℕ) (e : Event) : Type 0 where
  pub inside : Inside (numbers_of e) room
  pub not_full : full x e ≡ 0

-- An event without a refusal is accepted.
pub accepted : (x : Tables) (room : ℕ) (e : Event) → refusal x room e ≡ 0 → Accepted x room e
unfolding refusal
accepted x room e r = go (outside (numbers_of e) room 0) refl
  where
    go : (k : ℕ) → outside (numbers_of e) room 0 ≡ k → Accepted x room e
    go k q = yes_no (dec_lt 0 k)
      where
        yes_no : Dec (0 < k) → Accepted x room e
        yes_no (yes h) = absurd (omega (arith, outside_first (numbers_of e) room (full x e) (rw q h), q, r))
        yes_no (no h) =
            let i = inside (numbers_of e) room (omega (arith, q)) in
            record { inside = i; not_full = sym (inside_next (numbers_of e) room (full x e) i) ∙ r }

-- ---- The refusals that there are

-- States that k is 0, or a number from 3 to 8.
pub record Known (k : ℕ) : Type 0 where
  pub least : 0 < k → 3 ≤ k
  pub most : k ≤ 8

known : (k : ℕ) → 3 ≤ k → k ≤ 8 → Known k
known k h i = record { least = λ z. h; most = i }

known_none : Known 0
known_none = record { least = λ z. absurd (omega arith); most = lit≤ tt }

known_if : (b : Bool) {n m : ℕ} → Known n → Known m → Known (cond b n m)
known_if true p q = p
known_if false p q = q

module _ (x : Tables) where
  count_known : (t l : ℕ) → Known (full_count x t l)
  count_known t l = known_if (eqb (count_of x.rwlock_readers t l) 255) (known 8 (lit≤ tt) (lit≤ tt)) known_none

  full_known : (e : Event) → Known (full x e)
  full_known (RwReadAttempt t l Took) = count_known t l
  full_known (RwReadAttempt t l Blocked) = known_none
  full_known (RwReadAttempt t l (Hinted o)) = known_none
  full_known (RwReadAcquired t l) = count_known t l
  full_known (RwReadTry t l Taken) = count_known t l
  full_known (RwReadTry t l Missed) = known_none
  full_known (CondvarWaitBegin t c l) = known_if (ltb (length (queue_of x c)) 32) known_none (known 7 (lit≤ tt) (lit≤ tt))
  full_known (MutexAttempt t l o) = known_none
  full_known (MutexAcquired t l) = known_none
  full_known (MutexReleased t l) = known_none
  full_known (MutexExit l) = known_none
  full_known (RwReadReleased t l) = known_none
  full_known (RwWriteAttempt t l o) = known_none
  full_known (RwWriteAcquired t l) = known_none
  full_known (RwWriteReleased t l) = known_none
  full_known (RwExit l) = known_none
  full_known (CondvarSpawn c) = known_none
  full_known (CondvarExit c) = known_none
  full_known (CondvarNotifyOne c) = known_none
  full_known (CondvarNotifyAll c) = known_none
  full_known (CondvarWaitEnd t c l) = known_none

  -- Every refusal of an event is one of these.
  pub refusal_known : (room : ℕ) (e : Event) → Known (refusal x room e)
  unfolding refusal outside
  refusal_known room e =
      let n = numbers_of e in
      let three = known 3 (lit≤ tt) (lit≤ tt) in
      known_if (ltb 31 n.thread) three (known_if (ltb 31 n.hint) three (known_if (ltb 63 n.lock) (known 4 (lit≤ tt) (lit≤ tt))
      (known_if (ltb 15 n.condvar) (known 5 (lit≤ tt) (lit≤ tt)) (known_if (ltb room buffer_bytes) (known 6 (lit≤ tt) (lit≤ tt)) (full_known e)))))

-- ---- Queues

-- The queue that the tables have is the code's queue as a list.
pub queue_at_lem : (d : Detector) (c : ℕ) → queue_of (tables d) c ≡ pairs_of (get_or d.condvars.cv_waiters c blank_queue)
queue_at_lem d c = get_or-map pairs_of d.condvars.cv_waiters c blank_queue

-- Its length is the length that the code keeps.
pub queue_length : (d : Detector) (c : ℕ) → Valid d → c < 16 → length (queue_of (tables d) c) ≡ (get_or d.condvars.cv_waiters c blank_queue).len
queue_length d c v h =
    let q = get_or d.condvars.cv_waiters c blank_queue in
    let k = v.queues c h in
    ap length (queue_at_lem d c) ∙ length-take-le q.len q.pairs (omega (arith, k.long, k.cells))

-- A queue that is not full has room for one more pair.
pub room_left : (d : Detector) (c : ℕ) → Valid d → c < 16 → full_queue (tables d) c ≡ 0 → (get_or d.condvars.cv_waiters c blank_queue).len < 32
room_left d c v h e = go (ltb (length (queue_of (tables d) c)) 32) refl e
  where
    go : (b : Bool) → ltb (length (queue_of (tables d) c)) 32 ≡ b → ◌≡◌ {A = ℕ} (cond b 0 7) 0 → (get_or d.condvars.cv_waiters c blank_queue).len < 32
    go true q e = let k = ltb-true (length (queue_of (tables d) c)) 32 q in omega (arith, queue_length d c v h)
    go false q e = absurd (omega arith)
