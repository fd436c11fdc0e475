-- The reports of every event are true.
use mathlib.Core.Path.{◌≡◌, refl, ◌∙◌}
use mathlib.Core.Logic.{inl, inr}
use mathlib.Core.List.{List, [], ◌∷◌, foldl}
use mathlib.Core.Bool.{Bool, true, false, cond}
use Prim.Native.Nat.{ℕ, suc, ◌<◌}
use native.Mathlib.Omega.{arith}
use lib.Dec.{eqb, ltb, lit≤}
use lib.ListN.{take}
use borrow.Author.Tests.{eqb-true}
use Rattle.waits.specs.Tables.{owner_of}
use Rattle.waits.specs.Report.{Report, Judging, quiet}
use Rattle.waits.specs.Attempt.{block, block_mutex, read_on, write_on, free, block_write}
use Rattle.waits.specs.declared.tables.Waits.{Waits}
use Rattle.waits.specs.declared.outcome.Outcome.TheVariants.{Took, Blocked, Hinted}
use Rattle.waits.specs.declared.outcome.Tried.TheVariants.{Taken, Missed}
use Rattle.detector.specs.Tables.{Tables, Effect, queue_of, with_waits, silent, with_judging}
use Rattle.detector.specs.Mutex.{complete_acquire, acquire_slow, release_mutex, destroy_mutex}
use Rattle.detector.specs.RwLock.{complete_read, acquire_read, try_read, release_read, complete_write, acquire_write, release_write, destroy_rw_lock}
use Rattle.detector.specs.Condvar.{create_condvar, destroy_condvar, begin_wait, Woken, attempted, wake, wake_all, notify_first, notify_one, notify_all, end_wait}
use Rattle.detector.specs.Events.{apply}
use Rattle.detector.specs.Refusals.{Inside, numbers_of, full, refusal, buffer_bytes}
use Rattle.detector.specs.declared.event.Event.{Event}
use Rattle.detector.specs.declared.event.Event.TheVariants.{MutexAttempt, MutexAcquired, MutexReleased, MutexExit, RwReadAttempt, RwReadAcquired, RwReadTry, RwReadReleased, RwWriteAttempt, RwWriteAcquired, RwWriteReleased, RwExit, CondvarSpawn, CondvarExit, CondvarWaitBegin, CondvarNotifyOne, CondvarNotifyAll, CondvarWaitEnd}
use Rattle.detector.specs.declared.state.Pair.{Pair}
use Rattle.detector.proofs.Numbers.{inside_next, accepted}
use Rattle.detector.specs.Effects.{effect}
use Rattle.demands.specs.Invariants.{Fine, Seated, Kept}
use Rattle.demands.specs.Demand3.{Through, TrueReport, Each}
use Rattle.demands.proofs.Keeping.{acquired_keeps, write_acquired_keeps}
use Rattle.demands.proofs.Fine.{fine_own, fine_write, fine_rules}
use Rattle.demands.proofs.Reports.{each_map, each_append, Made, Fair, fair_quiet, fair_settle, fair_block, fair_mutex}

-- ---- An accepted event is accepted with room for all reports as well

pub accepted_full : (x : Tables) (room : ℕ) (e : Event) → refusal x room e ≡ 0 → refusal x buffer_bytes e ≡ 0
unfolding refusal
accepted_full x room e h =
    let a = accepted x room e h in
    let i = a.inside in
    inside_next (numbers_of e) buffer_bytes (full x e) (record { thread = i.thread; hint = i.hint; lock = i.lock; condvar = i.condvar; room = lit≤ tt }) ∙ a.not_full

-- ---- The reports of an event, with tables x before it and y after it

-- A report that was made in waits that the event passed through is true.
heard : (x : Tables) (e : Event) (y : Tables) {w : Waits} {r : Report} → Through x e y r.state → Made y.rwlock_readers w r → TrueReport x e y r
heard x e y p m = record { cycle = m.cycle; through = p }

-- States that all reports of the event e, whose effect is a, are true.
abbrev pub AllTrue : Tables → Event → Effect → Type 0
AllTrue x e a = Each (TrueReport x e a.tables) a.reports

-- An event whose only judgement is the last thing that it does has true reports.
true_one : (x : Tables) (e : Event) (y : Tables) (rs : List Report) → Fair y.rwlock_readers (record { waits = y.waits; reports = rs })
    → AllTrue x e (record { tables = y; reports = rs })
true_one x e y rs f = each_map (Made y.rwlock_readers y.waits) (TrueReport x e y) (λ r m. heard x e y (inl m.here) m) rs f.each

true_judging : (x : Tables) (e : Event) (a : Judging) → Fair x.rwlock_readers a → AllTrue x e (with_judging x a)
true_judging x e a f = true_one x e (with_waits x a.waits) a.reports f

-- ---- The attempts, and the events that complete them

module _ (x : Tables) (e : Event) (k : Kept x) where
  true_acquire : (t l : ℕ) → t < 32 → l < 64 → AllTrue x e (complete_acquire x t l)
  unfolding complete_acquire
  true_acquire t l h i = true_judging x e _ (fair_settle x.rwlock_readers _ l (acquired_keeps fine_rules x.waits t l h i k.waits))

  true_slow : (w : Waits) (t l : ℕ) → t < 32 → l < 64 → Fine w → AllTrue x e (acquire_slow x w t l)
  unfolding acquire_slow
  true_slow w t l h i f = true_judging x e _ (fair_mutex x.rwlock_readers w t l h i f)

  true_write : (t l : ℕ) → t < 32 → l < 64 → AllTrue x e (complete_write x t l)
  unfolding complete_write
  true_write t l h i = true_judging x e _ (fair_settle x.rwlock_readers _ l (write_acquired_keeps fine_rules x.waits t l h i k.waits))

  true_read : (w : Waits) (t l : ℕ) → t < 32 → l < 64 → Fine w → AllTrue x e (acquire_read x w t l)
  unfolding acquire_read
  true_read w t l h i f = true_judging x e _ (fair_block x.rwlock_readers w t (read_on l) h i f)

  true_blocked : (w : Waits) (t l : ℕ) → t < 32 → l < 64 → Fine w → AllTrue x e (acquire_write x w t l)
  unfolding acquire_write block_write
  true_blocked w t l h i f = true_judging x e _ (go (free x.rwlock_readers w l))
    where
      go : (b : Bool) → Fair x.rwlock_readers (cond b (quiet w) (block x.rwlock_readers w t (write_on l)))
      go true = fair_quiet x.rwlock_readers w f
      go false = fair_block x.rwlock_readers w t (write_on l) h i f

-- ---- Condvars

-- One pair is treated.
fair_attempted : (c : List ℕ) (w : Waits) (p : Pair) → p.thread < 32 → p.lock < 64 → Fine w → Fair c (attempted c w p)
unfolding attempted
fair_attempted c w p h i f = go (ltb (owner_of w p.lock) 32)
  where
    go : (b : Bool) → Fair c (cond b (block_mutex c w p.thread p.lock) (quiet w))
    go true = fair_mutex c w p.thread p.lock h i f
    go false = fair_quiet c w f

-- States that after a walk over pairs the waits are fine and P holds of all reports so far.
record Walked (P : Report → Type 0) (s : Woken) : Type 0 where
  fine : Fine s.waits
  each : Each P s.reports

-- A walk over q keeps this if P holds of each report that is made on the way.
walked : (c : List ℕ) (P : Report → Type 0) (q : List Pair) (s : Woken) → Seated q → Walked P s
    → ((m : ℕ) (r : Report) → Made c (foldl (wake c) s (take m q)).waits r → P r) → Walked P (foldl (wake c) s q)
unfolding wake
walked c P [] s k v h = v
walked c P (p ∷ q) s k v h =
    let a = fair_attempted c s.waits p k.0 k.1 v.fine in
    walked c P q (wake c s p) k.2 (record {
      fine = a.fine;
      each = each_append P s.reports _ v.each (each_map (Made c (attempted c s.waits p).waits) P (h 1) (attempted c s.waits p).reports a.each);
    }) (λ m. h (suc m))

true_all : (x : Tables) (c : ℕ) → Kept x → AllTrue x (CondvarNotifyAll c) (notify_all x c)
unfolding notify_all wake_all
true_all x c k =
    (walked x.rwlock_readers (TrueReport x (CondvarNotifyAll c) (notify_all x c).tables) (queue_of x c) (record { waits = x.waits; woken = x.cv_woken; reports = [] }) (k.seated c)
    (record { fine = k.waits; each = tt })
    (λ m r d. heard x (CondvarNotifyAll c) (notify_all x c).tables (inr (c, m, refl, d.here)) d)).each

true_first : (x : Tables) (c : ℕ) → Kept x → AllTrue x (CondvarNotifyOne c) (notify_one x c)
unfolding notify_one wake_all wake
true_first x c k = go (queue_of x c) (k.seated c)
  where
    go : (q : List Pair) → Seated q → AllTrue x (CondvarNotifyOne c) (notify_first x c q)
    go [] s = tt
    go (p ∷ q) s =
        let a = fair_attempted x.rwlock_readers x.waits p s.0 s.1 k.waits in
        true_one x (CondvarNotifyOne c) (notify_first x c (p ∷ q)).tables _ a

-- ---- Every event

true_apply : (x : Tables) (e : Event) (room : ℕ) → Inside (numbers_of e) room → Kept x → AllTrue x e (apply e x)
unfolding release_mutex destroy_mutex complete_read try_read release_read release_write destroy_rw_lock create_condvar destroy_condvar begin_wait end_wait
true_apply x (MutexAttempt t l Took) n h k = true_acquire x (MutexAttempt t l Took) k t l h.thread h.lock
true_apply x (MutexAttempt t l Blocked) n h k = true_slow x (MutexAttempt t l Blocked) k x.waits t l h.thread h.lock k.waits
true_apply x (MutexAttempt t l (Hinted o)) n h k =
    true_slow x (MutexAttempt t l (Hinted o)) k _ t l h.thread h.lock (fine_own x.waits l o (omega (arith, h.hint)) k.waits)
true_apply x (MutexAcquired t l) n h k = true_acquire x (MutexAcquired t l) k t l h.thread h.lock
true_apply x (MutexReleased t l) n h k = tt
true_apply x (MutexExit l) n h k = tt
true_apply x (RwReadAttempt t l Took) n h k = tt
true_apply x (RwReadAttempt t l Blocked) n h k = true_read x (RwReadAttempt t l Blocked) k x.waits t l h.thread h.lock k.waits
true_apply x (RwReadAttempt t l (Hinted o)) n h k =
    true_read x (RwReadAttempt t l (Hinted o)) k _ t l h.thread h.lock (fine_write x.waits l o (omega (arith, h.hint)) k.waits)
true_apply x (RwReadAcquired t l) n h k = tt
true_apply x (RwReadTry t l Taken) n h k = tt
true_apply x (RwReadTry t l Missed) n h k = tt
true_apply x (RwReadReleased t l) n h k = tt
true_apply x (RwWriteAttempt t l Took) n h k = true_write x (RwWriteAttempt t l Took) k t l h.thread h.lock
true_apply x (RwWriteAttempt t l Blocked) n h k = true_blocked x (RwWriteAttempt t l Blocked) k x.waits t l h.thread h.lock k.waits
true_apply x (RwWriteAttempt t l (Hinted o)) n h k =
    true_blocked x (RwWriteAttempt t l (Hinted o)) k _ t l h.thread h.lock (fine_write x.waits l o (omega (arith, h.hint)) k.waits)
true_apply x (RwWriteAcquired t l) n h k = true_write x (RwWriteAcquired t l) k t l h.thread h.lock
true_apply x (RwWriteReleased t l) n h k = tt
true_apply x (RwExit l) n h k = tt
true_apply x (CondvarSpawn c) n h k = tt
true_apply x (CondvarExit c) n h k = tt
true_apply x (CondvarWaitBegin t c l) n h k = tt
true_apply x (CondvarNotifyOne c) n h k = true_first x c k
true_apply x (CondvarNotifyAll c) n h k = true_all x c k
true_apply x (CondvarWaitEnd t c l) n h k = tt

-- ---- An event, refused or not

pub true_effect : (x : Tables) (room : ℕ) (e : Event) → Kept x → AllTrue x e (effect x room e)
unfolding effect
true_effect x room e k = go (eqb (refusal x room e) 0) refl
  where
    go : (b : Bool) → eqb (refusal x room e) 0 ≡ b → AllTrue x e (cond b (apply e x) (silent x))
    go true q = true_apply x e room (accepted x room e (eqb-true _ _ q)).inside k
    go false q = tt
