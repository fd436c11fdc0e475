-- Every event keeps whatever the rules of waiting keep of the waits, and the ranges of the other tables.
use mathlib.Core.Path.{◌≡◌, refl}
use mathlib.Core.List.{List, [], ◌∷◌, ◌++◌, foldl}
use mathlib.Core.Bool.{Bool, true, false, cond}
use Rattle.std.specs.Prelude.{Option, None, Some}
use Prim.Native.Nat.{ℕ, suc, ◌+◌, ◌-◌, ◌<◌, ◌≤◌, ◌^◌}
use native.Mathlib.Omega.{arith}
use lib.Dec.{eqb, ltb, lit≤}
use lib.ListN.{get_or, set, length, length-set, length-append}
use borrow.Author.Tests.{eqb-true, eqb-false, ltb-true}
use Rattle.sets.proofs.Digits.{with_lt, without_le}
use Rattle.sets.proofs.Below.{each_keeps}
use Rattle.sets.proofs.Tables.{set_all}
use Rattle.waits.specs.Tables.{intent_of, owner_of, writer_of, with_intents, own, write, hold, unhold}
use Rattle.waits.specs.Counts.{place, count_of, count_up, count_down, no_readers, set_count}
use Rattle.waits.specs.Waiting.{Linking, clear, register, refresh, refresh_next, refresh_locks}
use Rattle.waits.specs.Filter.{passes}
use Rattle.waits.specs.Report.{quiet, reporting}
use Rattle.waits.specs.Validate.{names, valid, awaited_locks, checked, validate}
use Rattle.waits.specs.Attempt.{judge_found, judge, sieve_found, sieve, settle, block, block_mutex, mutex_on, read_on, write_on, free, block_write}
use Rattle.waits.specs.declared.tables.Waits.{Waits}
use Rattle.waits.specs.declared.intent.WaitIntent.{WaitIntent}
use Rattle.waits.specs.declared.outcome.Outcome.TheVariants.{Took, Blocked, Hinted}
use Rattle.waits.specs.declared.outcome.Tried.TheVariants.{Taken, Missed}
use Rattle.detector.specs.Tables.{Tables, no_cv_wait, blank_cv_wait, queue_of, with_waits, with_counts, with_queue, with_woken, silent}
use Rattle.detector.specs.Mutex.{acquired, complete_acquire, acquire_slow, released, release_mutex, clear_naming, unhold_all, purge, destroy_mutex}
use Rattle.detector.specs.RwLock.{complete_read, acquire_read, try_read, loosen, release_read, write_acquired, complete_write, acquire_write, write_released, release_write, destroy_rw_lock}
use Rattle.detector.specs.Condvar.{condvar_at, create_condvar, forget, destroy_condvar, begin_wait, Woken, attempted, wake, wake_all, notify_first, notify_one, notify_all, is_pair, leave, end_wait}
use Rattle.detector.specs.Events.{apply}
use Rattle.detector.specs.Refusals.{Inside, numbers_of, full_count, full, refusal}
use Rattle.detector.specs.State.{ValidCvWait}
use Rattle.detector.specs.declared.event.Event.{Event}
use Rattle.detector.specs.declared.event.Event.TheVariants.{MutexAttempt, MutexAcquired, MutexReleased, MutexExit, RwReadAttempt, RwReadAcquired, RwReadTry, RwReadReleased, RwWriteAttempt, RwWriteAcquired, RwWriteReleased, RwExit, CondvarSpawn, CondvarExit, CondvarWaitBegin, CondvarNotifyOne, CondvarNotifyAll, CondvarWaitEnd}
use Rattle.detector.specs.declared.state.Pair.{Pair}
use Rattle.detector.specs.declared.state.CvWait.{CvWait}
use Rattle.detector.proofs.Numbers.{accepted}
use Rattle.detector.proofs.Queues.{cv_wait_none, cv_wait_some}
use Rattle.detector.specs.Effects.{effect}
use Rattle.demands.specs.Invariants.{Counts, Seated, KeptWith}

-- States that each rule of waiting keeps P.
pub record Rules (P : Waits → Type 0) : Type 0 where
  pub owned : (w : Waits) (l o : ℕ) → o ≤ 32 → P w → P (own w o l)
  pub wrote : (w : Waits) (l o : ℕ) → o ≤ 32 → P w → P (write w o l)
  pub holding : (w : Waits) (t l : ℕ) → l < 64 → P w → P (hold w t l)
  pub unholding : (w : Waits) (t l : ℕ) → P w → P (unhold w t l)
  pub cleared : (w : Waits) (t : ℕ) → t < 32 → P w → P (clear w t)
  pub registered : (c : List ℕ) (w : Waits) (t : ℕ) (i : WaitIntent) → t < 32 → i.lock_id < 64 → P w → P (register c w t i).waits
  pub refreshed : (c : List ℕ) (w : Waits) (l : ℕ) → P w → P (refresh c w l).waits
  pub loosened : (w : Waits) (t l : ℕ) → t < 32 → P w → P (loosen w t l)
  pub emptied : (w : Waits) (l : ℕ) → l < 64 → P w → P (with_intents w w.thread_waits_for (set w.lock_waiters l 0))

-- ---- The other tables

-- States that there is a cv wait in range, or none, for each of the 32 threads.
record CvWaits (v : List CvWait) : Type 0 where
  size : length v ≡ 32
  all : (t : ℕ) → ValidCvWait (get_or v t blank_cv_wait)

cv_waits_set : (v : List CvWait) (t : ℕ) (p : CvWait) → ValidCvWait p → CvWaits v → CvWaits (set v t p)
cv_waits_set v t p h s = record { size = simp length-set s.size; all = set_all ValidCvWait v t p blank_cv_wait h s.all }

sleeping_forget : (v : List CvWait) (c : ℕ) → CvWaits v → CvWaits (forget v c)
unfolding forget
sleeping_forget v c s = each_keeps CvWaits (λ u t. cond (eqb (condvar_at v t) c) (set u t no_cv_wait) u) 32 v (λ u t h r. go u t r (eqb (condvar_at v t) c)) s
  where
    go : (u : List CvWait) (t : ℕ) → CvWaits u → (b : Bool) → CvWaits (cond b (set u t no_cv_wait) u)
    go u t r true = cv_waits_set u t no_cv_wait cv_wait_none r
    go u t r false = r

counts_set : (c : List ℕ) (i n : ℕ) → n ≤ 255 → Counts c → Counts (set c i n)
counts_set c i n h k = record { size = simp length-set k.size; small = set_all (λ (x : ℕ). x ≤ 255) c i n 0 h k.small }

counts_up : (x : Tables) (t l : ℕ) → full_count x t l ≡ 0 → Counts x.rwlock_readers → Counts (count_up x.rwlock_readers t l)
unfolding count_up
counts_up x t l e k = counts_set _ _ _ (go (eqb (count_of x.rwlock_readers t l) 255) refl e) k
  where
    go : (b : Bool) → eqb (count_of x.rwlock_readers t l) 255 ≡ b → cond {A = ℕ} b 8 0 ≡ 0 → count_of x.rwlock_readers t l + 1 ≤ 255
    go true p z = absurd (omega arith)
    go false p z = let n : count_of x.rwlock_readers t l ≡ 255 → ⊥ = eqb-false _ _ p in omega (arith, k.small (place t l))

counts_down : (c : List ℕ) (l t : ℕ) → Counts c → Counts (count_down c t l)
unfolding count_down
counts_down c l t k = counts_set _ _ _ (omega (arith, k.small (place t l))) k

counts_none : (c : List ℕ) (l : ℕ) → Counts c → Counts (no_readers c l)
unfolding no_readers
counts_none c l k = each_keeps Counts (λ d t. set_count d t l 0) 32 c (λ d t h g. counts_set d _ 0 (omega arith) g) k

seated_snoc : (q : List Pair) (p : Pair) → p.thread < 32 → p.lock < 64 → Seated q → Seated (q ++ (p ∷ []))
seated_snoc [] p h i s = (h, i, tt)
seated_snoc (y ∷ q) p h i s = (s.0, s.1, seated_snoc q p h i s.2)

leave_less : (t l : ℕ) (q : List Pair) → length (leave t l q) ≤ length q
unfolding leave
leave_less t l [] = omega arith
leave_less t l (p ∷ q) = go (is_pair t l p) (leave_less t l q)
  where
    go : (b : Bool) → length (leave t l q) ≤ length q → length (cond b (leave t l q) (p ∷ leave t l q)) ≤ suc (length q)
    go true h = omega arith
    go false h = omega arith

seated_leave : (t l : ℕ) (q : List Pair) → Seated q → Seated (leave t l q)
unfolding leave
seated_leave t l [] s = tt
seated_leave t l (p ∷ q) s = go (is_pair t l p) (seated_leave t l q s.2)
  where
    go : (b : Bool) → Seated (leave t l q) → Seated (cond b (leave t l q) (p ∷ leave t l q))
    go true h = h
    go false h = (s.0, s.1, h)

-- ---- The waits

module _ {P : Waits → Type 0} (rules : Rules P) where
  if_keeps : (b : Bool) (v w : Waits) → P v → P w → P (cond b v w)
  if_keeps true v w f g = f
  if_keeps false v w f g = g

  pub acquired_keeps : (w : Waits) (t l : ℕ) → t < 32 → l < 64 → P w → P (acquired w t l)
  unfolding acquired
  acquired_keeps w t l h k f = rules.cleared _ t h (rules.holding _ t l k (rules.owned w l t (omega arith) f))

  pub write_acquired_keeps : (w : Waits) (t l : ℕ) → t < 32 → l < 64 → P w → P (write_acquired w t l)
  unfolding write_acquired
  write_acquired_keeps w t l h k f = rules.cleared _ t h (rules.holding _ t l k (rules.wrote w l t (omega arith) f))

  released_keeps : (w : Waits) (t l : ℕ) → P w → P (released w t l)
  unfolding released
  released_keeps w t l f = rules.unholding _ t l (if_keeps (eqb (owner_of w l) t) _ _ (rules.owned w l 32 (lit≤ tt) f) f)

  write_released_keeps : (w : Waits) (t l : ℕ) → P w → P (write_released w t l)
  unfolding write_released
  write_released_keeps w t l f = rules.unholding _ t l (if_keeps (eqb (writer_of w l) t) _ _ (rules.wrote w l 32 (lit≤ tt) f) f)

  naming_keeps : (w : Waits) (l : ℕ) → P w → P (clear_naming w l)
  unfolding clear_naming
  naming_keeps w l f =
      each_keeps P (λ v t. cond (names (intent_of w t) l) (clear v t) v) 32 w (λ v t h g. if_keeps (names (intent_of w t) l) (clear v t) v (rules.cleared v t h g) g) f

  purge_keeps : (w : Waits) (l : ℕ) → l < 64 → P w → P (purge w l)
  unfolding purge unhold_all
  purge_keeps w l h f = rules.emptied _ l h (each_keeps P (λ v t. unhold v t l) 32 w (λ v t i u. rules.unholding v t l u) f)

  -- ---- A judgement

  locks_keeps : (c : List ℕ) (ls : List ℕ) (s : Linking) → P s.waits → P (foldl (refresh_next c) s ls).waits
  unfolding refresh_next
  locks_keeps c [] s f = f
  locks_keeps c (l ∷ ls) s f = locks_keeps c ls (refresh_next c s l) (rules.refreshed c s.waits l f)

  checked_keeps : (c : List ℕ) (w : Waits) (o : Option (List ℕ)) → P w → P (checked c w o).waits
  unfolding checked
  checked_keeps c w None f = f
  checked_keeps c w (Some p) f = go (valid c w p)
    where
      go : (b : Bool) → P (cond b (reporting w p) (quiet w)).waits
      go true = f
      go false = f

  validate_keeps : (c : List ℕ) (w : Waits) (p : List ℕ) → P w → P (validate c w p).waits
  unfolding validate refresh_locks
  validate_keeps c w p f = go (valid c w p)
    where
      s : Linking
      s = refresh_locks c w (awaited_locks w p)

      go : (b : Bool) → P (cond b (reporting w p) (checked c s.waits s.found)).waits
      go true = f
      go false = checked_keeps c s.waits s.found (locks_keeps c (awaited_locks w p) (record { waits = w; found = None }) f)

  judge_keeps : (c : List ℕ) (s : Linking) → P s.waits → P (judge c s).waits
  judge_keeps c s f = go s.found
    where
      go : (o : Option (List ℕ)) → P (judge_found c s.waits o).waits
      go None = f
      go (Some p) = validate_keeps c s.waits p f

  sieve_keeps : (c : List ℕ) (s : Linking) → P s.waits → P (sieve c s).waits
  sieve_keeps c s f = go s.found
    where
      pass : (p : List ℕ) (b : Bool) → P (cond b (validate c s.waits p) (quiet s.waits)).waits
      pass p true = validate_keeps c s.waits p f
      pass p false = f

      go : (o : Option (List ℕ)) → P (sieve_found c s.waits o).waits
      go None = f
      go (Some p) = pass p (passes c s.waits p)

  settle_keeps : (c : List ℕ) (w : Waits) (l : ℕ) → P w → P (settle c w l).waits
  unfolding settle
  settle_keeps c w l f = judge_keeps c (refresh c w l) (rules.refreshed c w l f)

  block_keeps : (c : List ℕ) (w : Waits) (t : ℕ) (i : WaitIntent) → t < 32 → i.lock_id < 64 → P w → P (block c w t i).waits
  unfolding block
  block_keeps c w t i h k f = judge_keeps c (register c w t i) (rules.registered c w t i h k f)

  mutex_keeps : (c : List ℕ) (w : Waits) (t l : ℕ) → t < 32 → l < 64 → P w → P (block_mutex c w t l).waits
  unfolding block_mutex
  mutex_keeps c w t l h k f = sieve_keeps c (register c w t (mutex_on l)) (rules.registered c w t (mutex_on l) h k f)

  write_keeps : (c : List ℕ) (w : Waits) (t l : ℕ) → t < 32 → l < 64 → P w → P (block_write c w t l).waits
  unfolding block_write
  write_keeps c w t l h k f = go (free c w l)
    where
      go : (b : Bool) → P (cond b (quiet w) (block c w t (write_on l))).waits
      go true = f
      go false = block_keeps c w t (write_on l) h k f

  attempted_keeps : (c : List ℕ) (w : Waits) (p : Pair) → p.thread < 32 → p.lock < 64 → P w → P (attempted c w p).waits
  unfolding attempted
  attempted_keeps c w p h k f = go (ltb (owner_of w p.lock) 32)
    where
      go : (b : Bool) → P (cond b (block_mutex c w p.thread p.lock) (quiet w)).waits
      go true = mutex_keeps c w p.thread p.lock h k f
      go false = f

  -- ---- One table of all

  put_waits_lem : (x : Tables) (w : Waits) → P w → KeptWith P x → KeptWith P (with_waits x w)
  put_waits_lem x w f k =
      record { waits = f; counts = k.counts; condvars = k.condvars; queues = k.queues; seated = k.seated; cv_places = k.cv_places; cv_waits = k.cv_waits; woken = k.woken }

  put_counts_lem : (x : Tables) (w : Waits) (c : List ℕ) → P w → Counts c → KeptWith P x → KeptWith P (with_counts x w c)
  put_counts_lem x w c f h k =
      record { waits = f; counts = h; condvars = k.condvars; queues = k.queues; seated = k.seated; cv_places = k.cv_places; cv_waits = k.cv_waits; woken = k.woken }

  put_queue : (x : Tables) (c : ℕ) (q : List Pair) (v : List CvWait) → length q ≤ 32 → Seated q → CvWaits v → KeptWith P x → KeptWith P (with_queue x c q v)
  put_queue x c q v n s h k =
      record {
        waits = k.waits;
        counts = k.counts;
        condvars = simp length-set k.condvars;
        queues = set_all (λ (q : List Pair). length q ≤ 32) x.cv_waiters c q [] n k.queues;
        seated = set_all Seated x.cv_waiters c q [] s k.seated;
        cv_places = h.size;
        cv_waits = h.all;
        woken = k.woken;
      }

  put_woken : (x : Tables) (w : Waits) (m : ℕ) → P w → m < 2 ^ 32 → KeptWith P x → KeptWith P (with_woken x w m)
  put_woken x w m f h k =
      record { waits = f; counts = k.counts; condvars = k.condvars; queues = k.queues; seated = k.seated; cv_places = k.cv_places; cv_waits = k.cv_waits; woken = h }

  cv_waits_of : (x : Tables) → KeptWith P x → CvWaits x.thread_wait_cv
  cv_waits_of x k = record { size = k.cv_places; all = k.cv_waits }

  -- ---- The events, by their rules

  module _ (x : Tables) (k : KeptWith P x) where
    kept_acquire : (t l : ℕ) → t < 32 → l < 64 → KeptWith P (complete_acquire x t l).tables
    unfolding complete_acquire
    kept_acquire t l h i = put_waits_lem x _ (settle_keeps x.rwlock_readers _ l (acquired_keeps x.waits t l h i k.waits)) k

    kept_slow : (w : Waits) (t l : ℕ) → t < 32 → l < 64 → P w → KeptWith P (acquire_slow x w t l).tables
    unfolding acquire_slow
    kept_slow w t l h i f = put_waits_lem x _ (mutex_keeps x.rwlock_readers w t l h i f) k

    kept_release : (t l : ℕ) → KeptWith P (release_mutex x t l).tables
    unfolding release_mutex
    kept_release t l = put_waits_lem x _ (rules.refreshed x.rwlock_readers _ l (released_keeps x.waits t l k.waits)) k

    kept_destroy : (l : ℕ) → l < 64 → KeptWith P (destroy_mutex x l).tables
    unfolding destroy_mutex
    kept_destroy l h = put_waits_lem x _ (purge_keeps _ l h (naming_keeps _ l (rules.owned x.waits l 32 (lit≤ tt) k.waits))) k

    kept_read : (t l : ℕ) → t < 32 → full_count x t l ≡ 0 → KeptWith P (complete_read x t l).tables
    unfolding complete_read
    kept_read t l h e = put_counts_lem x _ _ (rules.cleared x.waits t h k.waits) (counts_up x t l e k.counts) k

    kept_reading : (w : Waits) (t l : ℕ) → t < 32 → l < 64 → P w → KeptWith P (acquire_read x w t l).tables
    unfolding acquire_read
    kept_reading w t l h i f = put_waits_lem x _ (block_keeps x.rwlock_readers w t (read_on l) h i f) k

    kept_try : (t l : ℕ) → full_count x t l ≡ 0 → KeptWith P (try_read x t l).tables
    unfolding try_read
    kept_try t l e = put_counts_lem x _ _ (rules.refreshed (count_up x.rwlock_readers t l) x.waits l k.waits) (counts_up x t l e k.counts) k

    kept_released : (t l : ℕ) → t < 32 → KeptWith P (release_read x t l).tables
    unfolding release_read
    kept_released t l h =
        put_counts_lem x _ _ (if_keeps (eqb (count_of x.rwlock_readers t l - 1) 0) (loosen x.waits t l) x.waits (rules.loosened x.waits t l h k.waits) k.waits)
        (counts_down x.rwlock_readers l t k.counts) k

    kept_write : (t l : ℕ) → t < 32 → l < 64 → KeptWith P (complete_write x t l).tables
    unfolding complete_write
    kept_write t l h i = put_waits_lem x _ (settle_keeps x.rwlock_readers _ l (write_acquired_keeps x.waits t l h i k.waits)) k

    kept_writing : (w : Waits) (t l : ℕ) → t < 32 → l < 64 → P w → KeptWith P (acquire_write x w t l).tables
    unfolding acquire_write
    kept_writing w t l h i f = put_waits_lem x _ (write_keeps x.rwlock_readers w t l h i f) k

    kept_unwrite : (t l : ℕ) → t < 32 → KeptWith P (release_write x t l).tables
    unfolding release_write
    kept_unwrite t l h = put_waits_lem x _ (rules.loosened _ t l h (write_released_keeps x.waits t l k.waits)) k

    kept_gone : (l : ℕ) → l < 64 → KeptWith P (destroy_rw_lock x l).tables
    unfolding destroy_rw_lock
    kept_gone l h = put_counts_lem x _ _ (purge_keeps _ l h (rules.wrote x.waits l 32 (lit≤ tt) k.waits)) (counts_none x.rwlock_readers l k.counts) k

    kept_spawn : (c : ℕ) → KeptWith P (create_condvar x c).tables
    unfolding create_condvar
    kept_spawn c = put_queue x c [] _ (omega arith) tt (cv_waits_of x k) k

    kept_exit : (c : ℕ) → KeptWith P (destroy_condvar x c).tables
    unfolding destroy_condvar
    kept_exit c = put_queue x c [] _ (omega arith) tt (sleeping_forget _ c (cv_waits_of x k)) k

    kept_begin : (t c l : ℕ) → t < 32 → l < 64 → c < 16 → cond {A = ℕ} (ltb (length (queue_of x c)) 32) 0 7 ≡ 0 → KeptWith P (begin_wait x t c l).tables
    unfolding begin_wait
    kept_begin t c l h i j e =
        put_queue x c _ _ (go (ltb (length (queue_of x c)) 32) refl e) (seated_snoc (queue_of x c) (record { thread = t; lock = l }) h i (k.seated c))
        (cv_waits_set _ t (record { condvar = c; lock = l }) (cv_wait_some c l j i) (cv_waits_of x k)) k
      where
        go : (b : Bool) → ltb (length (queue_of x c)) 32 ≡ b → cond {A = ℕ} b 0 7 ≡ 0 → length (queue_of x c ++ (record { thread = t; lock = l } ∷ [])) ≤ 32
        go true p z = omega (arith, length-append (queue_of x c) (record { thread = t; lock = l } ∷ []), ltb-true (length (queue_of x c)) 32 p)
        go false p z = absurd (omega arith)

    kept_end : (t c l : ℕ) → t < 32 → KeptWith P (end_wait x t c l).tables
    unfolding end_wait
    kept_end t c l h =
        put_woken _ _ _ (rules.cleared x.waits t h k.waits) (omega (arith, without_le x.cv_woken t, k.woken))
        (put_queue x c _ _ (omega (arith, leave_less t l (queue_of x c), k.queues c)) (seated_leave t l (queue_of x c) (k.seated c)) (cv_waits_set _ t no_cv_wait cv_wait_none (cv_waits_of x k)) k)

    -- Pairs are woken one after the other.
    woken_keeps : (q : List Pair) (s : Woken) → Seated q → P s.waits × (s.woken < 2 ^ 32)
        → P (foldl (wake x.rwlock_readers) s q).waits × ((foldl (wake x.rwlock_readers) s q).woken < 2 ^ 32)
    unfolding wake
    woken_keeps [] s h f = f
    woken_keeps (p ∷ q) s h f =
        woken_keeps q (wake x.rwlock_readers s p) h.2
        (attempted_keeps x.rwlock_readers s.waits p h.0 h.1 f.0, with_lt 32 s.woken p.thread f.1 h.0)

    kept_all : (c : ℕ) → KeptWith P (notify_all x c).tables
    unfolding notify_all wake_all
    kept_all c =
        let r = woken_keeps (queue_of x c) (record { waits = x.waits; woken = x.cv_woken; reports = [] }) (k.seated c) (k.waits, k.woken) in
        put_woken _ _ _ r.0 r.1 (put_queue x c [] _ (omega arith) tt (cv_waits_of x k) k)

    kept_first : (c : ℕ) → KeptWith P (notify_one x c).tables
    unfolding notify_one wake_all
    kept_first c = go (queue_of x c) (k.queues c) (k.seated c)
      where
        go : (q : List Pair) → length q ≤ 32 → Seated q → KeptWith P (notify_first x c q).tables
        go [] n s = k
        go (p ∷ q) n s =
            let r = woken_keeps (p ∷ []) (record { waits = x.waits; woken = x.cv_woken; reports = [] }) (s.0, s.1, tt) (k.waits, k.woken) in
            put_woken _ _ _ r.0 r.1 (put_queue x c q _ (omega arith) s.2 (cv_waits_of x k) k)

    kept_apply : (e : Event) (room : ℕ) → Inside (numbers_of e) room → full x e ≡ 0 → KeptWith P (apply e x).tables
    unfolding release_mutex destroy_mutex complete_read try_read release_read release_write destroy_rw_lock create_condvar destroy_condvar begin_wait end_wait
    kept_apply (MutexAttempt t l Took) n h f = kept_acquire t l h.thread h.lock
    kept_apply (MutexAttempt t l Blocked) n h f = kept_slow x.waits t l h.thread h.lock k.waits
    kept_apply (MutexAttempt t l (Hinted o)) n h f = kept_slow _ t l h.thread h.lock (rules.owned x.waits l o (omega (arith, h.hint)) k.waits)
    kept_apply (MutexAcquired t l) n h f = kept_acquire t l h.thread h.lock
    kept_apply (MutexReleased t l) n h f = kept_release t l
    kept_apply (MutexExit l) n h f = kept_destroy l h.lock
    kept_apply (RwReadAttempt t l Took) n h f = kept_read t l h.thread f
    kept_apply (RwReadAttempt t l Blocked) n h f = kept_reading x.waits t l h.thread h.lock k.waits
    kept_apply (RwReadAttempt t l (Hinted o)) n h f = kept_reading _ t l h.thread h.lock (rules.wrote x.waits l o (omega (arith, h.hint)) k.waits)
    kept_apply (RwReadAcquired t l) n h f = kept_read t l h.thread f
    kept_apply (RwReadTry t l Taken) n h f = kept_try t l f
    kept_apply (RwReadTry t l Missed) n h f = k
    kept_apply (RwReadReleased t l) n h f = kept_released t l h.thread
    kept_apply (RwWriteAttempt t l Took) n h f = kept_write t l h.thread h.lock
    kept_apply (RwWriteAttempt t l Blocked) n h f = kept_writing x.waits t l h.thread h.lock k.waits
    kept_apply (RwWriteAttempt t l (Hinted o)) n h f = kept_writing _ t l h.thread h.lock (rules.wrote x.waits l o (omega (arith, h.hint)) k.waits)
    kept_apply (RwWriteAcquired t l) n h f = kept_write t l h.thread h.lock
    kept_apply (RwWriteReleased t l) n h f = kept_unwrite t l h.thread
    kept_apply (RwExit l) n h f = kept_gone l h.lock
    kept_apply (CondvarSpawn c) n h f = kept_spawn c
    kept_apply (CondvarExit c) n h f = kept_exit c
    kept_apply (CondvarWaitBegin t c l) n h f = kept_begin t c l h.thread h.lock h.condvar f
    kept_apply (CondvarNotifyOne c) n h f = kept_first c
    kept_apply (CondvarNotifyAll c) n h f = kept_all c
    kept_apply (CondvarWaitEnd t c l) n h f = kept_end t c l h.thread

    -- THEOREM: an event that is served keeps them, and so does any event, refused or not.
    pub served_keeps : (room : ℕ) (e : Event) → refusal x room e ≡ 0 → KeptWith P (apply e x).tables
    served_keeps room e h = let a = accepted x room e h in kept_apply e room a.inside a.not_full

    pub effect_keeps : (room : ℕ) (e : Event) → KeptWith P (effect x room e).tables
    unfolding effect
    effect_keeps room e = go (eqb (refusal x room e) 0) refl
      where
        go : (b : Bool) → eqb (refusal x room e) 0 ≡ b → KeptWith P (cond b (apply e x) (silent x)).tables
        go true q = served_keeps room e (eqb-true _ _ q)
        go false q = k
