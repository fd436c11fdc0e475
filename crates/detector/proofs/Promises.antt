-- How the promise of an event follows from what its parts promise.
use mathlib.Core.Path.{◌≡◌, refl, sym, ap, ◌∙◌, subst}
use mathlib.Core.Bool.{Bool, true, false, cond, true≢false, false≢true}
use lib.Dec.{eqb, lit<, lit≤}
use mathlib.Core.List.{List}
use Prim.Native.Nat.{ℕ, ◌-◌, ◌<◌, zero, suc}
use native.Mathlib.Omega.{arith}
use borrow.Author.Tests.{eq-eqb}
use lib.Seq.{set-get_or, get_or-set_same}
use Rattle.waits.specs.Counts.{place, count_of, count_down}
use Rattle.detector.specs.Refusals.{full_count}
use lib.ListN.{length, set, get_or, replicate, get_or-replicate}
use Rattle.std.specs.Prelude.{Option, None, Some}
use Rattle.sets.specs.Sets.{without}
use Rattle.waits.specs.Tables.{InRange, waiters_of, own, write, owner_of, writer_of, holds_of, with_holds, unhold}
use Rattle.waits.specs.declared.outcome.Outcome.{Outcome}
use Rattle.waits.specs.declared.outcome.Outcome.TheVariants.{Took, Blocked, Hinted}
use Rattle.detector.specs.Mutex.{acquire_slow, mutex_attempt, released}
use Rattle.detector.specs.RwLock.{acquire_read, read_attempt, acquire_write, write_attempt, write_released}
use Rattle.waits.proofs.Laws.{range_empty}
use Rattle.waits.specs.Report.{Judging, written}
use Rattle.waits.specs.Code.{judged}
use Rattle.waits.specs.Promises.{laid}
use Rattle.waits.specs.declared.tables.Waits.{Waits}
use Rattle.waits.proofs.Judging.{laid_none, settle_idle}
use Rattle.waits.specs.Attempt.{settle}
use Rattle.detector.specs.Tables.{Tables, Effect, with_waits, with_counts, silent, with_judging, no_pair, no_cv_wait, blank_cv_wait}
use Rattle.detector.specs.State.{tables, Valid, blank_queue, Queued, ValidCvWait}
use Rattle.detector.specs.Promises.{Does}
use Rattle.detector.specs.Code.{put_waits, disowned, empty_queue}
use Rattle.detector.specs.declared.state.Detector.{Detector}
use Rattle.waits.specs.Tables as waiting
use Rattle.detector.specs.declared.state.Queue.{Queue}
use Rattle.detector.specs.declared.state.Condvars.{Condvars}

-- ---- A state stays valid if its waits stay in range

-- Returns the state with other waits and other counts.
abbrev pub put_counts : Detector → Waits → List ℕ → Detector
put_counts d w c = record { waits = w; cv_woken = d.cv_woken; rwlock_readers = c; condvars = d.condvars }

-- A state stays valid if its waits stay in range.
valid_counts : (d : Detector) (w : Waits) (c : List ℕ) → Valid d → InRange w → Valid (put_counts d w c)
valid_counts d w c v s = record { waits = s; queues = v.queues; cv_waits = v.cv_waits }

valid_waits : (d : Detector) (w : Waits) → Valid d → InRange w → Valid (put_waits d w)
valid_waits d w v s = valid_counts d w d.rwlock_readers v s

-- ---- Promises

-- A state with waits in range has its own waits in range.
pub pack_waits : {c : Detector} (d : Detector) (w : Waits) → c ≡ put_waits d w → InRange w → (c ≡ put_waits d w) × InRange c.waits
pack_waits d w e h = (e, subst (λ (x : Detector). InRange x.waits) (sym e) h)

-- The tables after a path was judged are those that were given.
pub judged_waits : (v : Waits) (o : Option (List ℕ)) → (judged v o).waits ≡ v
judged_waits v None = refl
judged_waits v (Some p) = refl

-- An event whose path was judged by the rule, and whose report was written, keeps its promise.
pub does_judges : (d : Detector) (v : Waits) (o : Option (List ℕ)) (n : ℕ) (b e : List ℕ) (a : Judging) → judged v o ≡ a → Valid d → InRange v
    → n ≡ length (judged v o).reports → e ≡ laid b 0 (written (judged v o).reports) → Does (put_waits d v) n b e (with_judging (tables d) a)
does_judges d v o n b e a q k s c y =
    record {
      state = ap (with_waits (tables d)) (sym (judged_waits v o) ∙ ap (λ (x : Judging). x.waits) q);
      count = c ∙ ap (λ (x : Judging). length x.reports) q;
      bytes = y ∙ ap (λ (x : Judging). laid b 0 (written x.reports)) q;
      valid = valid_waits d v k s;
    }

-- An event that changes only the waits and the counts, and reports nothing, keeps its promise.
pub does_counts : (d : Detector) (w : Waits) (c : List ℕ) → Valid d → InRange w → (b : List ℕ) → Does (put_counts d w c) 0 b b (silent (with_counts (tables d) w c))
unfolding written
does_counts d w c v s b = record { state = refl; count = refl; bytes = sym (laid_none b 0); valid = valid_counts d w c v s }

-- So does one that changes only the waits.
pub does_waits : (d : Detector) (w : Waits) → Valid d → InRange w → (b : List ℕ) → Does (put_waits d w) 0 b b (silent (with_waits (tables d) w))
does_waits d w v s b = does_counts d w d.rwlock_readers v s b

-- The promise of one state is the promise of an equal one.
pub alike : {c d : Detector} {n : ℕ} {b e : List ℕ} {a : Effect} → c ≡ d → Does d n b e a → Does c n b e a
alike {n = n} {b = b} {e = e} {a = a} q t = subst (λ (x : Detector). Does x n b e a) (sym q) t

-- The promise of one effect is the promise of an equal one.
pub redo : {d : Detector} {n : ℕ} {b e : List ℕ} {a z : Effect} → a ≡ z → Does d n b e a → Does d n b e z
redo {d} {n} {b} {e} q t = subst (Does d n b e) q t

-- If a lock that is taken has no waiters, nothing is reported and the waits stay.
pub idle_judges : (c : List ℕ) (w : Waits) (l : ℕ) → waiters_of w l ≡ 0 → judged w None ≡ settle c w l
idle_judges c w l z = sym (settle_idle c w l z)

-- ---- Blocked attempts

-- Returns true if the thread was blocked, with or without a hint.
abbrev pub was_blocked : Outcome → Bool
was_blocked Took = false
was_blocked Blocked = true
was_blocked (Hinted o) = true

-- Returns the thread that a hint names, or b if there is no hint.
abbrev pub hinted : ℕ → Outcome → ℕ
hinted b Took = b
hinted b Blocked = b
hinted b (Hinted o) = o

-- The only outcome without a block is that the thread took the lock.
pub as_taken : {A : Type 0} (F : Outcome → A) (o : Outcome) → was_blocked o ≡ false → F Took ≡ F o
as_taken F Took e = refl
as_taken F Blocked e = absurd (true≢false e)
as_taken F (Hinted o) e = absurd (true≢false e)

-- A blocked attempt with a hint and one without are one rule, which writes the hint or what was there before.
as_hinted : {A : Type 0} (F : Outcome → A) (G : ℕ → A) (b : ℕ) → G b ≡ F Blocked → ((h : ℕ) → G h ≡ F (Hinted h)) → (o : Outcome) → was_blocked o ≡ true → G (hinted b o) ≡ F o
as_hinted F G b p q Took e = absurd (false≢true e)
as_hinted F G b p q Blocked e = p
as_hinted F G b p q (Hinted h) e = q h

-- Writing the owner, or the writer, that is there already changes nothing.
pub own_same : (w : Waits) (l : ℕ) → own w (owner_of w l) l ≡ w
own_same w l = rw (set-get_or w.mutex_owners l 0)

pub write_same : (w : Waits) (l : ℕ) → write w (writer_of w l) l ≡ w
write_same w l = rw (set-get_or w.rwlock_writer l 0)

module _ (x : Tables) (t l : ℕ) where
  -- So a blocked attempt is one rule, whatever its outcome says of an owner.
  pub mutex_blocked : (o : Outcome) → was_blocked o ≡ true → acquire_slow x (own x.waits (hinted (owner_of x.waits l) o) l) t l ≡ mutex_attempt x t l o
  mutex_blocked = as_hinted (mutex_attempt x t l) (λ h. acquire_slow x (own x.waits h l) t l) _ (ap (λ w. acquire_slow x w t l) (own_same x.waits l)) (λ h. refl)

  pub read_blocked : (o : Outcome) → was_blocked o ≡ true → acquire_read x (write x.waits (hinted (writer_of x.waits l) o) l) t l ≡ read_attempt x t l o
  read_blocked = as_hinted (read_attempt x t l) (λ h. acquire_read x (write x.waits h l) t l) _ (ap (λ w. acquire_read x w t l) (write_same x.waits l)) (λ h. refl)

  pub write_blocked : (o : Outcome) → was_blocked o ≡ true → acquire_write x (write x.waits (hinted (writer_of x.waits l) o) l) t l ≡ write_attempt x t l o
  write_blocked = as_hinted (write_attempt x t l) (λ h. acquire_write x (write x.waits h l) t l) _ (ap (λ w. acquire_write x w t l) (write_same x.waits l)) (λ h. refl)

-- ---- Counts

-- A count that does not refuse is not 255.
pub not_full_lem : (x : Tables) (t l : ℕ) → full_count x t l ≡ 0 → count_of x.rwlock_readers t l ≡ 255 → ⊥
not_full_lem x t l e q = omega (arith, sym (ap (λ b. cond b 8 0) (eq-eqb (count_of x.rwlock_readers t l) 255 q)) ∙ e)

-- The count after one read was given up is one less, or 0.
pub count_down_at : (c : List ℕ) (l t : ℕ) → place t l < length c → count_of (count_down c t l) t l ≡ count_of c t l - 1
unfolding count_down
count_down_at c l t h = get_or-set_same c (place t l) (count_of c t l - 1) 0 h

-- ---- An owner, or a writer, that gives up

-- Returns the waits with other owners, or with other writers.
abbrev with_owners : Waits → List ℕ → Waits
with_owners w o =
    record {
      wait_for_graph = w.wait_for_graph;
      thread_waits_for = w.thread_waits_for;
      lock_waiters = w.lock_waiters;
      thread_holds = w.thread_holds;
      mutex_owners = o;
      rwlock_writer = w.rwlock_writer;
    }

abbrev with_writers : Waits → List ℕ → Waits
with_writers w o =
    record {
      wait_for_graph = w.wait_for_graph;
      thread_waits_for = w.thread_waits_for;
      lock_waiters = w.lock_waiters;
      thread_holds = w.thread_holds;
      mutex_owners = w.mutex_owners;
      rwlock_writer = o;
    }

-- The code changes a table of owners or writers and the holds, and the rule changes the waits.
pub released_is : (w : Waits) (t l : ℕ) → with_holds (with_owners w (disowned w.mutex_owners t l)) (set w.thread_holds t (without (holds_of w t) l)) ≡ released w t l
unfolding released
released_is w t l = go (eqb (owner_of w l) t)
  where
    go : (b : Bool) → with_holds (with_owners w (cond b (set w.mutex_owners l 32) w.mutex_owners)) (set w.thread_holds t (without (holds_of w t) l))
        ≡ unhold (cond b (own w 32 l) w) t l
    go true = refl
    go false = refl

pub write_released_is : (w : Waits) (t l : ℕ) → with_holds (with_writers w (disowned w.rwlock_writer t l)) (set w.thread_holds t (without (holds_of w t) l)) ≡ write_released w t l
unfolding write_released
write_released_is w t l = go (eqb (writer_of w l) t)
  where
    go : (b : Bool) → with_holds (with_writers w (cond b (set w.rwlock_writer l 32) w.rwlock_writer)) (set w.thread_holds t (without (holds_of w t) l))
        ≡ unhold (cond b (write w 32 l) w) t l
    go true = refl
    go false = refl

-- ---- The empty state is valid

-- What is true of the value in every place, and of the value read outside, is true of every read.
get_d_same : {A : Type 0} (n k : ℕ) (v d : A) → (P : A → Type 0) → P v → P d → P (get_or (replicate n v) k d)
get_d_same zero k v d P p q = q
get_d_same (suc n) zero v d P p q = p
get_d_same (suc n) (suc k) v d P p q = get_d_same n k v d P p q

-- Returns the condvars of the empty state.
abbrev pub new_condvars : Condvars
new_condvars = record { cv_waiters = replicate 16 empty_queue; thread_wait_cv = replicate 32 no_cv_wait }

pub queued_empty : Queued empty_queue
queued_empty =
    record {
      long = lit≤ tt;
      cells = refl;
      threads = λ k. get_d_same 32 k no_pair no_pair (λ p. p.thread < 32) (lit< tt) (lit< tt);
      locks = λ k. get_d_same 32 k no_pair no_pair (λ p. p.lock < 64) (lit< tt) (lit< tt);
      unused = λ k h. get_d_same 32 k no_pair no_pair (λ p. p ≡ no_pair) refl refl;
    }

pub valid_new : Valid (record { waits = waiting.empty; cv_woken = 0; rwlock_readers = replicate 2048 0; condvars = new_condvars })
valid_new =
    record {
      waits = range_empty;
      queues = λ c h. subst (λ (q : Queue). Queued q) (sym (get_or-replicate 16 c empty_queue blank_queue h)) queued_empty;
      cv_waits = λ t. get_d_same 32 t no_cv_wait blank_cv_wait ValidCvWait
          (record { condvar = lit≤ tt; lock = lit< tt; absent = λ e. refl })
          (record { condvar = lit≤ tt; lock = lit< tt; absent = λ e. refl });
    }
