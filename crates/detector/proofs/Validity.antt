-- The test of a lent state is true exactly when the state is valid.
use mathlib.Core.Path.{◌≡◌, refl, sym, ap, ap₂, ◌∙◌, subst}
use mathlib.Core.List.{List, map}
use mathlib.Core.Bool.{Bool, true, false, cond}
use Prim.Native.Nat.{ℕ, zero, suc, ◌<◌, ◌≤◌}
use Rattle.std.specs.Prelude.{Option, None, ◌&&◌}
use Rattle.std.specs.List.{list_all}
use Rattle.std.proofs.lemmas.List.{take_all}
use Rattle.std.proofs.lemmas.List.Folds.{list_all_more}
use native.Mathlib.Numerals.{add-one}
use native.Mathlib.Omega.{arith}
use native.Mathlib.Decide.{dec_lt, ℕ_discrete}
use lib.Dec.{ltb, lit<, lit≤}
use lib.ListN.{get_or, length, take, length-map, get_or-eq_default}
use borrow.Author.Tests.{eq-eqb, ne_eqb, lt-ltb, le-ltb, eqb-true, ltb-true}
use Rattle.sets.proofs.Lists.{both}
use Rattle.sets.specs.Below.{every}
use Rattle.sets.proofs.Below.{every_at, every_of}
use Rattle.waits.specs.Tables.{InRange, intent_of, lock_of, owner_of, writer_of}
use Rattle.waits.specs.declared.tables.Waits.{Waits}
use Rattle.waits.specs.declared.intent.WaitIntent.{WaitIntent}
use Rattle.detector.specs.Tables.{no_pair, blank_cv_wait}
use Rattle.detector.specs.State.{blank_queue, Queued, ValidCvWait, Valid, range_test, place_test, queue_test, cv_wait_test, valid_test}
use Rattle.detector.specs.declared.state.Pair.{Pair}
use Rattle.detector.specs.declared.state.Queue.{Queue}
use Rattle.detector.specs.declared.state.CvWait.{CvWait}
use Rattle.detector.specs.declared.state.Detector.{Detector}

-- What is true of the n places of a table, and of what is read outside it, is true of every read.
pub everywhere : {A : Type 0} (P : A → Type 0) (l : List A) (d : A) (n : ℕ) → length l ≡ n → P d → ((k : ℕ) → k < n → P (get_or l k d)) → (k : ℕ) → P (get_or l k d)
everywhere P l d n e p h k = go (dec_lt k n)
  where
    go : Dec (k < n) → P (get_or l k d)
    go (yes i) = h k i
    go (no i) = subst P (sym (get_or-eq_default l d (omega (arith, e)))) p

and_cond : (a b : Bool) → (a && b) ≡ cond a b false
and_cond true b = refl
and_cond false b = refl

-- A test of every element of a table is a test of every place.
module _ {A : Type 0} (p : A → Bool) (l : List A) (d : A) where
  every_taken : (n : ℕ) → n ≤ length l → list_all p (take n l) ≡ every (λ k. p (get_or l k d)) n
  unfolding every
  every_taken zero h = refl
  every_taken (suc n) h =
      ap (λ (x : ℕ). list_all p (take x l)) (sym (add-one n))
      ∙ list_all_more p l n d (omega arith)
      ∙ and_cond (list_all p (take n l)) (p (get_or l n d))
      ∙ ap (λ (b : Bool). cond b (p (get_or l n d)) false) (every_taken n (omega arith))

  pub every_place : (n : ℕ) → length l ≡ n → list_all p l ≡ every (λ k. p (get_or l k d)) n
  every_place n e = ap (list_all p) (sym (take_all n l (omega arith))) ∙ every_taken n (omega arith)

-- ---- The tables of the waits

module _ (w : Waits) where
  -- Waits in range pass the test, and waits that pass it are in range.
  pub range_tested : InRange w → range_test w ≡ true
  unfolding range_test
  range_tested r =
      rw (
        every_of (λ t. ltb (lock_of (intent_of w t)) 64) 32 (λ t h. lt-ltb _ _ (r.locks t)),
        every_of (λ l. ltb (owner_of w l) 33) 64 (λ l h. let o = r.owner l in lt-ltb (owner_of w l) 33 (omega arith)),
      )
      (every_of (λ l. ltb (writer_of w l) 33) 64 (λ l h. let o = r.writer l in lt-ltb (writer_of w l) 33 (omega arith)))

  -- The test by how the tests of the three tables came out.
  module _ (i : length w.thread_waits_for ≡ 32) (o : length w.mutex_owners ≡ 64) (r : length w.rwlock_writer ≡ 64) where
    pub range_last : list_all (λ i. ltb (lock_of i) 64) w.thread_waits_for ≡ true → list_all (λ o. ltb o 33) w.mutex_owners ≡ true
        → list_all (λ o. ltb o 33) w.rwlock_writer ≡ range_test w
    unfolding range_test
    range_last p q =
        let a = sym (every_place (λ i. ltb (lock_of i) 64) w.thread_waits_for None 32 i) ∙ p in
        let b = sym (every_place (λ o. ltb o 33) w.mutex_owners 0 64 o) ∙ q in
        rw (a, b) (every_place (λ o. ltb o 33) w.rwlock_writer 0 64 r)

    pub range_second : list_all (λ i. ltb (lock_of i) 64) w.thread_waits_for ≡ true → list_all (λ o. ltb o 33) w.mutex_owners ≡ false → false ≡ range_test w
    unfolding range_test
    range_second p q =
        let a = sym (every_place (λ i. ltb (lock_of i) 64) w.thread_waits_for None 32 i) ∙ p in
        let b = sym (every_place (λ o. ltb o 33) w.mutex_owners 0 64 o) ∙ q in
        rw (a, b)

    pub range_first : list_all (λ i. ltb (lock_of i) 64) w.thread_waits_for ≡ false → false ≡ range_test w
    unfolding range_test
    range_first p =
        let a = sym (every_place (λ i. ltb (lock_of i) 64) w.thread_waits_for None 32 i) ∙ p in
        rw a

  at_most : (o : ℕ) → ltb o 33 ≡ true → o ≤ 32
  at_most o e = let h : o < 33 = ltb-true o 33 e in omega arith

  pub tested_range : length w.thread_waits_for ≡ 32 → length w.mutex_owners ≡ 64 → length w.rwlock_writer ≡ 64 → range_test w ≡ true → InRange w
  unfolding range_test
  tested_range i o r e =
      let p = both (every (λ t. ltb (lock_of (intent_of w t)) 64) 32) _ e in
      let q = both (every (λ l. ltb (owner_of w l) 33) 64) (every (λ l. ltb (writer_of w l) 33) 64) p.1 in
      record {
        locks = everywhere (λ (s : Option WaitIntent). lock_of s < 64) w.thread_waits_for None 32 i (lit< tt)
            (λ t h. ltb-true _ _ (every_at (λ t. ltb (lock_of (intent_of w t)) 64) 32 p.0 t h));
        owner = everywhere (λ (x : ℕ). x ≤ 32) w.mutex_owners 0 64 o (lit≤ tt)
            (λ l h. at_most _ (every_at (λ l. ltb (owner_of w l) 33) 64 q.0 l h));
        writer = everywhere (λ (x : ℕ). x ≤ 32) w.rwlock_writer 0 64 r (lit≤ tt)
            (λ l h. at_most _ (every_at (λ l. ltb (writer_of w l) 33) 64 q.1 l h));
      }

-- ---- A place of a queue of n pairs

-- States that the pair p may stand at the place k of a queue of n pairs.
pub record Placed (n k : ℕ) (p : Pair) : Type 0 where
  pub thread : p.thread < 32
  pub lock : p.lock < 64
  pub unused : n ≤ k → p ≡ no_pair

module _ (n k : ℕ) (p : Pair) where
  -- Such a pair passes the test, and a pair that passes it is such a pair.
  place_tested : Placed n k p → place_test n k p ≡ true
  place_tested h = go (dec_lt k n)
    where
      go : Dec (k < n) → place_test n k p ≡ true
      go (yes i) = rw (lt-ltb _ _ i, lt-ltb _ _ h.thread, lt-ltb _ _ h.lock)
      go (no i) =
          let e = h.unused (omega arith) in
          rw (le-ltb k n (omega arith), eq-eqb _ _ (ap (λ (x : Pair). x.thread) e), eq-eqb _ _ (ap (λ (x : Pair). x.lock) e))

  tested_place : place_test n k p ≡ true → Placed n k p
  tested_place e = go (dec_lt k n)
    where
      go : Dec (k < n) → Placed n k p
      go (yes i) =
          let q = both _ _ (rw (lt-ltb _ _ i) at e) in
          record { thread = ltb-true _ _ q.0; lock = ltb-true _ _ q.1; unused = λ j. absurd (omega arith) }
      go (no i) =
          let q = both _ _ (rw (le-ltb k n (omega arith)) at e) in
          let t : p.thread ≡ 0 = eqb-true _ _ q.0 in
          let l : p.lock ≡ 0 = eqb-true _ _ q.1 in
          record { thread = omega arith; lock = omega arith; unused = λ j. ap₂ (λ (x y : ℕ). record { thread = x; lock = y }) t l }

-- ---- A queue

module _ (q : Queue) where
  -- A valid queue passes the test, and a queue that passes it is valid.
  pub queue_tested : Queued q → queue_test q ≡ true
  unfolding queue_test
  queue_tested h =
      let n = h.long in
      rw (lt-ltb q.len 33 (omega arith))
      (every_of _ 32 (λ k i. place_tested q.len k _ (record { thread = h.threads k; lock = h.locks k; unused = h.unused k })))

  pub tested_queue : length q.pairs ≡ 32 → queue_test q ≡ true → Queued q
  unfolding queue_test
  tested_queue c e =
      let p = both _ _ e in
      let n : q.len < 33 = ltb-true _ _ p.0 in
      let at : (k : ℕ) → k < 32 → Placed q.len k (get_or q.pairs k no_pair) = λ k i. tested_place q.len k _ (every_at _ 32 p.1 k i) in
      record {
        long = omega arith;
        cells = c;
        threads = everywhere (λ (x : Pair). x.thread < 32) q.pairs no_pair 32 c (lit< tt) (λ k i. (at k i).thread);
        locks = everywhere (λ (x : Pair). x.lock < 64) q.pairs no_pair 32 c (lit< tt) (λ k i. (at k i).lock);
        unused = λ k j. past k j at (dec_lt k 32);
      }
    where
      past : (k : ℕ) → q.len ≤ k → ((k : ℕ) → k < 32 → Placed q.len k (get_or q.pairs k no_pair)) → Dec (k < 32) → get_or q.pairs k no_pair ≡ no_pair
      past k j at (yes i) = (at k i).unused j
      past k j at (no i) = get_or-eq_default q.pairs no_pair (omega (arith, c))

-- ---- A cv wait

module _ (v : CvWait) where
  -- A valid cv wait passes the test, and one that passes it is valid.
  cv_wait_tested : ValidCvWait v → cv_wait_test v ≡ true
  cv_wait_tested h = go (ℕ_discrete v.condvar 16)
    where
      go : Dec (v.condvar ≡ 16) → cv_wait_test v ≡ true
      go (yes e) = rw (eq-eqb _ _ e, eq-eqb _ _ (h.absent e))
      go (no n) = let c = h.condvar in rw (ne_eqb _ _ n, lt-ltb v.condvar 16 (omega arith), lt-ltb _ _ h.lock)

  tested_cv_wait : cv_wait_test v ≡ true → ValidCvWait v
  tested_cv_wait e = go (ℕ_discrete v.condvar 16)
    where
      go : Dec (v.condvar ≡ 16) → ValidCvWait v
      go (yes i) =
          let l : v.lock ≡ 0 = eqb-true _ _ (rw (eq-eqb _ _ i) at e) in
          record { condvar = omega arith; lock = omega arith; absent = λ z. l }
      go (no n) =
          let q = both _ _ (rw (ne_eqb _ _ n) at e) in
          let c : v.condvar < 16 = ltb-true _ _ q.0 in
          record { condvar = omega arith; lock = ltb-true _ _ q.1; absent = λ z. absurd (n z) }

-- ---- THEOREMS

-- States that the tables of a state are as long as their types say.
pub record Shaped (d : Detector) : Type 0 where
  pub intents : length d.waits.thread_waits_for ≡ 32
  pub owners : length d.waits.mutex_owners ≡ 64
  pub writers : length d.waits.rwlock_writer ≡ 64
  pub cv_waits : length d.condvars.thread_wait_cv ≡ 32
  pub cells : (c : ℕ) → c < 16 → length (get_or d.condvars.cv_waiters c blank_queue).pairs ≡ 32

module _ (d : Detector) where
  -- A valid state passes the test, and a state that passes it is valid if its waits are in range.
  pub valid_tested : Valid d → valid_test d ≡ true
  unfolding valid_test
  valid_tested v =
      rw (range_tested d.waits v.waits, every_of (λ c. queue_test (get_or d.condvars.cv_waiters c blank_queue)) 16 (λ c h. queue_tested _ (v.queues c h)))
      (every_of _ 32 (λ t h. cv_wait_tested _ (v.cv_waits t)))

  -- A state whose waits are in range is valid if it passes the test and its tables are as long as their types say.
  pub range_valid : InRange d.waits → ((c : ℕ) → c < 16 → length (get_or d.condvars.cv_waiters c blank_queue).pairs ≡ 32) → length d.condvars.thread_wait_cv ≡ 32
      → valid_test d ≡ true → Valid d
  unfolding valid_test
  range_valid i s v e =
      let p = both (range_test d.waits) _ e in
      let q = both (every (λ c. queue_test (get_or d.condvars.cv_waiters c blank_queue)) 16) (every (λ t. cv_wait_test (get_or d.condvars.thread_wait_cv t blank_cv_wait)) 32) p.1 in
      record {
        waits = i;
        queues = λ c h. tested_queue _ (s c h) (every_at (λ c. queue_test (get_or d.condvars.cv_waiters c blank_queue)) 16 q.0 c h);
        cv_waits = everywhere ValidCvWait d.condvars.thread_wait_cv blank_cv_wait 32 v
            (record { condvar = lit≤ tt; lock = lit< tt; absent = λ z. refl })
            (λ t h. tested_cv_wait _ (every_at (λ t. cv_wait_test (get_or d.condvars.thread_wait_cv t blank_cv_wait)) 32 q.1 t h));
      }

  -- So is any state that passes the test, if its tables are as long as their types say.
  pub tested_valid : Shaped d → valid_test d ≡ true → Valid d
  unfolding valid_test
  tested_valid s e = range_valid (tested_range d.waits s.intents s.owners s.writers (both (range_test d.waits) _ e).0) s.cells s.cv_waits e

  -- The test by how its three parts came out.
  pub valid_last : length d.condvars.thread_wait_cv ≡ 32 → range_test d.waits ≡ true → every (λ c. queue_test (get_or d.condvars.cv_waiters c blank_queue)) 16 ≡ true
      → list_all cv_wait_test d.condvars.thread_wait_cv ≡ valid_test d
  unfolding valid_test
  valid_last v p q = rw (p, q) (every_place cv_wait_test d.condvars.thread_wait_cv blank_cv_wait 32 v)

  pub valid_second : range_test d.waits ≡ true → every (λ c. queue_test (get_or d.condvars.cv_waiters c blank_queue)) 16 ≡ false → false ≡ valid_test d
  unfolding valid_test
  valid_second p q = rw (p, q)

  pub valid_first : range_test d.waits ≡ false → false ≡ valid_test d
  unfolding valid_test
  valid_first p = rw p

-- The length of a table of structs follows from the length of the list made from it.
pub unmapped : (X Y : Type 0) (f : X → Y) (l : List X) (n : ℕ) → length (map f l) ≡ n → length l ≡ n
unmapped X Y f l n e = sym (length-map l f) ∙ e
