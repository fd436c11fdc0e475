-- The queues of the condvars: what their places hold, the walk over one, and what an event does to a state.
use mathlib.Core.Path.{◌≡◌, refl, sym, ap, ap₂, ◌∙◌, subst}
use mathlib.Core.List.{List, [], ◌∷◌, ◌++◌, map, foldl, append_assoc, append-nil}
use mathlib.Core.Bool.{Bool, true, false, cond, false≢true}
use Prim.Native.Nat.{ℕ, zero, suc, ◌+◌, ◌<◌, ◌≤◌}
use Rattle.std.specs.Prelude.{Option, None, Some, slice_get, not, ◌&&◌}
use native.Mathlib.Numerals.{add-one}
use Rattle.std.proofs.Common.{add-zero}
use native.Mathlib.Omega.{arith}
use lib.Dec.{eqb, lit<, lit≤}
use lib.ListN.{get_or, set, length, take, length-append, replicate}
use lib.Seq.{take-suc, get_or-set_other, get_or-take, length-take-le, set-get_or}
use borrow.Author.Tests.{eq-eqb, ne_eqb, lt-ltb, le-ltb}
use Rattle.sets.specs.Sets.{with}
use Rattle.sets.specs.Below.{each}
use Rattle.sets.proofs.Below.{each_keeps, each_next, each_none}
use Rattle.sets.proofs.Tables.{set_all, fold_append}
use Rattle.waits.specs.Tables.{InRange, owner_of}
use Rattle.waits.specs.Attempt.{block_mutex}
use Rattle.waits.specs.Report.{Report, written, report, reporting, quiet, bytes_of}
use Rattle.waits.specs.Promises.{laid}
use Rattle.waits.specs.Code.{judged}
use Rattle.waits.specs.declared.tables.Waits.{Waits}
use Rattle.waits.proofs.Judging.{laid_none, laid_append, written_one}
use Rattle.detector.proofs.Promises.{judged_waits}
use Rattle.detector.specs.Tables.{Tables, no_pair, no_cv_wait, blank_cv_wait, queue_of, with_queue, with_woken}
use Rattle.detector.specs.Condvar.{condvar_at, forget, Woken, attempted, wake, wake_all, notify, notify_one, is_pair, leave}
use Rattle.detector.specs.State.{pairs_of, tables, blank_queue, Queued, ValidCvWait, Valid}
use Rattle.detector.specs.Promises.{Does, Wakes}
use Rattle.detector.specs.Code.{put_woken, tail_of}
use Rattle.detector.specs.declared.state.Pair.{Pair}
use Rattle.detector.specs.declared.state.Queue.{Queue}
use Rattle.detector.specs.declared.state.CvWait.{CvWait}
use Rattle.detector.specs.declared.state.Condvars.{Condvars}
use Rattle.detector.specs.declared.state.Detector.{Detector}

-- ---- Places

-- What is true of the value stored and of a place before is true of this place after the store.
put_keeps : {A : Type 0} (P : A → Type 0) (l : List A) (i k : ℕ) (v d : A) → P v → P (get_or l k d) → P (get_or (set l i v) k d)
put_keeps P [] i k v d p h = h
put_keeps P (x ∷ l) zero zero v d p h = p
put_keeps P (x ∷ l) zero (suc k) v d p h = h
put_keeps P (x ∷ l) (suc i) zero v d p h = h
put_keeps P (x ∷ l) (suc i) (suc k) v d p h = put_keeps P l i k v d p h

-- ---- One more pair of a queue in a walk over it

-- One more place is one more pair at the end.
pub pairs_none : (n k : ℕ) → get_or (replicate n no_pair) k no_pair ≡ no_pair
pairs_none zero k = refl
pairs_none (suc n) zero = refl
pairs_none (suc n) (suc k) = pairs_none n k

pub take_next : (ps : List Pair) (i : ℕ) → i < length ps → take (i + 1) ps ≡ take i ps ++ (get_or ps i no_pair ∷ [])
take_next ps i h = rw add-one (take-suc ps i no_pair h)

-- A valid queue has as many pairs as its length says, with threads and locks in range.
module _ (q : Queue) (h : Queued q) where
  pub pairs_length : length (pairs_of q) ≡ q.len
  pairs_length = length-take-le q.len q.pairs (omega (arith, h.cells, h.long))

  pub pair_small : (k : ℕ) → k < length (pairs_of q) → ((get_or (pairs_of q) k no_pair).thread < 32) × ((get_or (pairs_of q) k no_pair).lock < 64)
  pair_small k i = rw (get_or-take q.len q.pairs k no_pair (omega (arith, pairs_length))) (h.threads k, h.locks k)

-- A list has no first pair if it is empty, and else it is its first pair and the others.
pub none_first : (ps : List Pair) → slice_get ps 0 ≡ None → ps ≡ []
none_first [] e = refl
none_first (p ∷ ps) e = cc

pub some_first : (ps : List Pair) (p : Pair) → slice_get ps 0 ≡ Some p → ps ≡ p ∷ tail_of ps
some_first [] p e = cc
some_first (q ∷ ps) p e = cc

-- The first pair of a valid queue and the others are in range, and the others have room in a queue.
module _ (q : Queue) (h : Queued q) (p : Pair) (os : List Pair) (e : pairs_of q ≡ p ∷ os) where
  pub first_small : (p.thread < 32) × (p.lock < 64)
  first_small = let s = pair_small q h 0 (rw e (omega arith)) in rw e at s

  pub others_small : (k : ℕ) → k < length os → ((get_or os k no_pair).thread < 32) × ((get_or os k no_pair).lock < 64)
  others_small k i = let s = pair_small q h (suc k) (rw e (omega arith)) in rw e at s

  pub left_room : (l : Queue) (k : ℕ) → Queued l → pairs_of l ≡ take k os → k < length os → l.len < 32
  left_room l k u f i =
      let n : length (p ∷ os) ≡ q.len = sym (ap length e) ∙ pairs_length q h in
      omega (arith, n, h.long, pairs_length l u, ap length f, length-take-le k os (omega arith))

-- ---- The pairs (t, l) leave a queue

-- The test of the code says whether a pair is another one than (t, l).
module _ (t l : ℕ) (p : Pair) (b : Bool) (e : b ≡ not (eqb p.thread t && eqb p.lock l)) where
  pub kept_pair : b ≡ true → is_pair t l p ≡ false
  kept_pair f = go (eqb p.thread t) (eqb p.lock l) (sym e ∙ f)
    where
      go : (x y : Bool) → not (x && y) ≡ true → cond x y false ≡ false
      go true true z = absurd (false≢true z)
      go true false z = refl
      go false y z = refl

  pub gone_pair : b ≡ false → is_pair t l p ≡ true
  gone_pair f = go (eqb p.thread t) (eqb p.lock l) (sym e ∙ f)
    where
      go : (x y : Bool) → not (x && y) ≡ false → cond x y false ≡ true
      go true true z = refl
      go true false z = absurd (false≢true (sym z))
      go false y z = absurd (false≢true (sym z))

-- Taking the pairs (t, l) out of two lists joined takes them out of each.
leave_append : (t l : ℕ) (x y : List Pair) → leave t l (x ++ y) ≡ leave t l x ++ leave t l y
unfolding leave
leave_append t l [] y = refl
leave_append t l (p ∷ x) y = go (is_pair t l p) (leave_append t l x y)
  where
    go : (b : Bool) → leave t l (x ++ y) ≡ leave t l x ++ leave t l y
        → cond b (leave t l (x ++ y)) (p ∷ leave t l (x ++ y)) ≡ cond b (leave t l x) (p ∷ leave t l x) ++ leave t l y
    go true r = r
    go false r = ap (λ (z : List Pair). p ∷ z) r

module _ (t l : ℕ) (ps : List Pair) (i : ℕ) (h : i < length ps) where
  -- A pair (t, l) is not kept, and any other is.
  pub leave_one : is_pair t l (get_or ps i no_pair) ≡ true → leave t l (take i ps) ≡ leave t l (take (i + 1) ps)
  unfolding leave
  leave_one e = sym (ap (leave t l) (take_next ps i h) ∙ leave_append t l (take i ps) _ ∙ rw e (append-nil (leave t l (take i ps))))

  pub leave_not : is_pair t l (get_or ps i no_pair) ≡ false → leave t l (take i ps) ++ (get_or ps i no_pair ∷ []) ≡ leave t l (take (i + 1) ps)
  unfolding leave
  leave_not e = sym (ap (leave t l) (take_next ps i h) ∙ leave_append t l (take i ps) _ ∙ rw e)

pub leave_none : (t l : ℕ) (ps : List Pair) → leave t l (take 0 ps) ≡ []
unfolding leave
leave_none t l ps = refl

-- ---- Cv waits

-- The value that stands for no cv wait is valid, and so is a cv wait with condvar and lock in range.
pub cv_wait_none : ValidCvWait no_cv_wait
cv_wait_none = record { condvar = lit≤ tt; lock = lit< tt; absent = λ e. refl }

pub cv_wait_some : (c l : ℕ) → c < 16 → l < 64 → ValidCvWait (record { condvar = c; lock = l })
cv_wait_some c l h k = record { condvar = omega arith; lock = k; absent = λ e. absurd (omega arith) }

-- Storing a valid cv wait keeps all cv waits valid.
pub cv_wait_set : (v : List CvWait) (t : ℕ) (u : CvWait) → ValidCvWait u → ((k : ℕ) → ValidCvWait (get_or v k blank_cv_wait)) → (k : ℕ) → ValidCvWait (get_or (set v t u) k blank_cv_wait)
cv_wait_set v t u h a = set_all ValidCvWait v t u blank_cv_wait h a

-- Returns the cv waits without those for c of the threads below n.
abbrev pub forget_below : List CvWait → ℕ → ℕ → List CvWait
forget_below v c n = each (λ u t. cond (eqb (condvar_at v t) c) (set u t no_cv_wait) u) v n

-- A loop over the threads removes the cv waits for c one after the other.
pub forget_none : (v : List CvWait) (c : ℕ) → v ≡ forget_below v c 0
forget_none v c = sym (each_none _ v)

module _ (v : List CvWait) (c t : ℕ) where
  pub forget_more : condvar_at v t ≡ c → set (forget_below v c t) t no_cv_wait ≡ forget_below v c (t + 1)
  forget_more e = rw (eq-eqb _ _ e) at (each_next (λ u t. cond (eqb (condvar_at v t) c) (set u t no_cv_wait) u) v t)

  pub forget_same : (condvar_at v t ≡ c → ⊥) → forget_below v c t ≡ forget_below v c (t + 1)
  forget_same e = rw (ne_eqb _ _ e) at (each_next (λ u t. cond (eqb (condvar_at v t) c) (set u t no_cv_wait) u) v t)

-- The cv wait at a place that the loop has not reached is still the old one.
pub forget_at : (v : List CvWait) (c n k : ℕ) → n ≤ k → condvar_at (forget_below v c n) k ≡ condvar_at v k
unfolding each
forget_at v c zero k h = refl
forget_at v c (suc n) k h = go (eqb (condvar_at v n) c) (forget_at v c n k (omega arith))
  where
    go : (b : Bool) → condvar_at (forget_below v c n) k ≡ condvar_at v k
        → condvar_at (cond b (set (forget_below v c n) n no_cv_wait) (forget_below v c n)) k ≡ condvar_at v k
    go true r = ap (λ (w : CvWait). w.condvar) (get_or-set_other (forget_below v c n) n k no_cv_wait blank_cv_wait (λ e. omega arith)) ∙ r
    go false r = r

pub forget_all : (v : List CvWait) (c : ℕ) → forget_below v c 32 ≡ forget v c
unfolding forget
forget_all v c = refl

-- Removing cv waits keeps all cv waits valid.
pub cv_wait_forget : (v : List CvWait) (c : ℕ) → ((k : ℕ) → ValidCvWait (get_or v k blank_cv_wait)) → (k : ℕ) → ValidCvWait (get_or (forget v c) k blank_cv_wait)
unfolding forget
cv_wait_forget v c h =
    each_keeps (λ (u : List CvWait). (k : ℕ) → ValidCvWait (get_or u k blank_cv_wait)) _ 32 v (λ u t l a. go u t a (eqb (condvar_at v t) c)) h
  where
    go : (u : List CvWait) (t : ℕ) → ((k : ℕ) → ValidCvWait (get_or u k blank_cv_wait)) → (b : Bool) → (k : ℕ) → ValidCvWait (get_or (cond b (set u t no_cv_wait) u) k blank_cv_wait)
    go u t a true = cv_wait_set u t no_cv_wait cv_wait_none a
    go u t a false = a

-- ---- Waking

-- The bytes of two lists of reports joined are the bytes of both, joined.
written_append : (x y : List Report) → written (x ++ y) ≡ written x ++ written y
unfolding written
written_append [] y = refl
written_append (r ∷ x) y = ap (λ (l : List ℕ). bytes_of r ++ l) (written_append x y) ∙ sym (append_assoc (bytes_of r) (written x) (written y))

-- What the attempt of a pair does, by whether its lock has a mutex owner.
module _ (c : List ℕ) (w : Waits) (p : Pair) (l : ℕ) (e : l ≡ p.lock) where
  pub attempted_some : owner_of w l < 32 → block_mutex c w p.thread l ≡ attempted c w p
  unfolding attempted
  attempted_some h = let o : owner_of w p.lock < 32 = rw e at h in rw (e, lt-ltb _ _ o)

  pub attempted_none : 32 ≤ owner_of w l → quiet w ≡ attempted c w p
  unfolding attempted
  attempted_none h = let o : 32 ≤ owner_of w p.lock = rw e at h in rw (le-ltb _ _ o)

-- The reports of the pair's attempt come after those so far.
pub wake_judged : (d : Detector) (p : Pair) (n at : ℕ) (b m : List ℕ) (s : Woken) (v : Waits) (o : Option (List ℕ)) → Wakes d n at b m s
    → judged v o ≡ attempted d.rwlock_readers d.waits p → InRange v
    → (let y = (judged v o).reports in
    Wakes (put_woken d v (with d.cv_woken p.thread)) (n + length y) (at + length (written y)) b (laid m at (written y)) (wake d.rwlock_readers s p))
unfolding wake
wake_judged d p n at b m s v o k q i =
    let y = (judged v o).reports in
    let z = written_append s.reports y in
    rw (← k.waits, ← q)
    (record {
      waits = sym (judged_waits v o);
      woken = ap (λ (x : ℕ). with x p.thread) k.woken;
      count = rw length-append (omega (arith, k.count));
      bytes =
          ap₂ (λ (l : List ℕ) (u : ℕ). laid l u (written y)) k.bytes (k.used ∙ omega arith)
          ∙ sym (laid_append b 0 (written s.reports) (written y))
          ∙ ap (laid b 0) (sym z);
      used = rw (z, length-append) (omega (arith, k.used));
      in_range = i;
    })

-- With a cycle to report the bytes are those of its report, and without one nothing is written.
pub wake_more : (d : Detector) (p : Pair) (n at : ℕ) (b m e : List ℕ) (u : ℕ) (s : Woken) (v : Waits) (q : List ℕ) → Wakes d n at b m s
    → reporting v q ≡ attempted d.rwlock_readers d.waits p → InRange v → e ≡ laid m at (bytes_of (report v q)) → u ≡ at + length (bytes_of (report v q))
    → Wakes (put_woken d v (with d.cv_woken p.thread)) (n + 1) u b e (wake d.rwlock_readers s p)
wake_more d p n at b m e u s v q k j i f g =
    rw (f, g)
    (subst (λ (l : List ℕ). Wakes (put_woken d v (with d.cv_woken p.thread)) (n + 1) (at + length l) b (laid m at l) (wake d.rwlock_readers s p))
    (written_one (report v q)) (wake_judged d p n at b m s v (Some q) k j i))

pub wake_less : (d : Detector) (p : Pair) (n at : ℕ) (b m : List ℕ) (s : Woken) (v : Waits) → Wakes d n at b m s
    → quiet v ≡ attempted d.rwlock_readers d.waits p → InRange v
    → Wakes (put_woken d v (with d.cv_woken p.thread)) n at b m (wake d.rwlock_readers s p)
unfolding written
wake_less d p n at b m s v k j i =
    let w : Wakes (put_woken d v (with d.cv_woken p.thread)) (n + 0) (at + 0) b (laid m at []) (wake d.rwlock_readers s p) = wake_judged d p n at b m s v None k j i in
    rw (add-zero n, add-zero at, laid_none m at) at w

-- One turn of the loop wakes one more pair.
pub wake_step : (c : List ℕ) (s : Woken) (ps : List Pair) (i : ℕ) → i < length ps
    → wake c (wake_all c s (take i ps)) (get_or ps i no_pair) ≡ wake_all c s (take (i + 1) ps)
unfolding wake_all
wake_step c s ps i h = sym (ap (foldl (wake c) s) (take_next ps i h) ∙ fold_append (wake c) (take i ps) (get_or ps i no_pair ∷ []) s)

-- A state after the walk went on over one more pair.
pub walk_on : (c : List ℕ) (s : Woken) (ps : List Pair) (i : ℕ) (d f g : Detector) (n at : ℕ) (b e : List ℕ) → i < length ps → d.rwlock_readers ≡ c → f ≡ g
    → Wakes g n at b e (wake d.rwlock_readers (wake_all c s (take i ps)) (get_or ps i no_pair)) → Wakes f n at b e (wake_all c s (take (i + 1) ps))
walk_on c s ps i d f g n at b e h r q w =
    let t = ap (λ (x : List ℕ). wake x (wake_all c s (take i ps)) (get_or ps i no_pair)) r ∙ wake_step c s ps i h in
    subst (λ (x : Detector). Wakes x n at b e (wake_all c s (take (i + 1) ps))) (sym q) (subst (λ (x : Woken). Wakes g n at b e x) t w)

-- A walk changes only the waits and the woken threads.
pub woken_again : (a d f : Detector) (w : Waits) (m : ℕ) → d ≡ put_woken a d.waits d.cv_woken → f ≡ put_woken d w m → f ≡ put_woken a f.waits f.cv_woken
woken_again a d f w m e g =
    let r : f.rwlock_readers ≡ a.rwlock_readers = ap (λ (x : Detector). x.rwlock_readers) g ∙ ap (λ (x : Detector). x.rwlock_readers) e in
    let k : f.condvars ≡ a.condvars = ap (λ (x : Detector). x.condvars) g ∙ ap (λ (x : Detector). x.condvars) e in
    ap₂ (λ (x : List ℕ) (y : Condvars). record { waits = f.waits; cv_woken = f.cv_woken; rwlock_readers = x; condvars = y }) r k

pub wake_none : (c : List ℕ) (s : Woken) (ps : List Pair) → wake_all c s (take 0 ps) ≡ s
unfolding wake_all
wake_none c s ps = refl

pub wake_first : (c : List ℕ) (s : Woken) (p : Pair) → wake_all c s (p ∷ []) ≡ wake c s p
unfolding wake_all
wake_first c s p = refl

-- Without reports the buffer stays as it is.
pub silent_bytes : (b : List ℕ) → b ≡ laid b 0 (written [])
unfolding written
silent_bytes b = sym (laid_none b 0)

-- Before the first pair no report is made.
pub wakes_start : (d : Detector) (b : List ℕ) → InRange d.waits → Wakes d 0 0 b b (record { waits = d.waits; woken = d.cv_woken; reports = [] })
unfolding written
wakes_start d b h = record { waits = refl; woken = refl; count = refl; bytes = sym (laid_none b 0); used = refl; in_range = h }

-- ---- The state

-- Storing a value and then mapping is mapping and then storing.
map_set : {A B : Type 0} (f : A → B) (l : List A) (i : ℕ) (v : A) → map f (set l i v) ≡ set (map f l) i (f v)
map_set f [] i v = refl
map_set f (x ∷ l) zero v = refl
map_set f (x ∷ l) (suc i) v = ap (λ (r : List _). f x ∷ r) (map_set f l i v)

-- Returns the tables with other queues.
abbrev with_queues : Tables → List (List Pair) → Tables
with_queues x l =
    record {
      waits = x.waits;
      rwlock_readers = x.rwlock_readers;
      cv_waiters = l;
      thread_wait_cv = x.thread_wait_cv;
      cv_woken = x.cv_woken;
    }

-- Returns the state with q as the queue of c, and with other cv waits, waits and woken threads.
abbrev pub queued_state : Detector → ℕ → Queue → List CvWait → Waits → ℕ → Detector
queued_state d c q v w m =
    record {
      waits = w;
      cv_woken = m;
      rwlock_readers = d.rwlock_readers;
      condvars = record { cv_waiters = set d.condvars.cv_waiters c q; thread_wait_cv = v };
    }

module _ (d : Detector) (c : ℕ) (q : Queue) (l : List Pair) (v : List CvWait) (w : Waits) (m : ℕ) where
  -- An event that changes these keeps its promise.
  pub queue_does : Valid d → Queued q → pairs_of q ≡ l → ((t : ℕ) → ValidCvWait (get_or v t blank_cv_wait)) → InRange w
      → (n : ℕ) (rs : List Report) (b e : List ℕ) → n ≡ length rs → e ≡ laid b 0 (written rs)
      → Does (queued_state d c q v w m) n b e
      (record { tables = with_woken (with_queue (tables d) c l v) w m; reports = rs })
  queue_does h u f a i n rs b e k y =
      record {
        state = rw (map_set pairs_of d.condvars.cv_waiters c q, f);
        count = k;
        bytes = y;
        valid = record {
          waits = i;
          queues = λ j s. put_keeps Queued d.condvars.cv_waiters c j q blank_queue u (h.queues j s);
          cv_waits = a;
        };
      }

  -- The same without a report.
  pub silent_does : Valid d → Queued q → pairs_of q ≡ l → ((t : ℕ) → ValidCvWait (get_or v t blank_cv_wait)) → InRange w → (b : List ℕ)
      → Does (queued_state d c q v w m) 0 b b (record { tables = with_woken (with_queue (tables d) c l v) w m; reports = [] })
  silent_does h u f a i b = queue_does h u f a i 0 [] b b refl (silent_bytes b)

-- Returns the start of a walk over a queue.
abbrev pub begun : Detector → Woken
begun d = record { waits = d.waits; woken = d.cv_woken; reports = [] }

-- An event that wakes the pairs ps and leaves l in the queue of c keeps its promise.
pub notify_does : (d : Detector) (c : ℕ) (q : Queue) (l ps : List Pair) (w : Waits) (m n at : ℕ) (b e : List ℕ) → Valid d → Queued q → pairs_of q ≡ l
    → (let f = queued_state d c q d.condvars.thread_wait_cv w m in
    Wakes f n at b e (wake_all d.rwlock_readers (begun d) ps) → Does f n b e (notify (tables d) c ps l))
notify_does d c q l ps w m n at b e h u f k =
    rw (← k.waits, ← k.woken)
    (queue_does d c q l d.condvars.thread_wait_cv w m h u f h.cv_waits k.in_range n _ b e k.count k.bytes)

module _ (d : Detector) (c : ℕ) (h : Valid d) (q : Queue) (u : Queued q) where
  -- The event c1 keeps its promise on an empty queue.
  pub nobody_does : queue_of (tables d) c ≡ [] → pairs_of q ≡ [] → (b : List ℕ)
      → Does (queued_state d c q d.condvars.thread_wait_cv d.waits d.cv_woken) 0 b b (notify_one (tables d) c)
  unfolding notify_one
  nobody_does e f b =
      let k = silent_does d c q [] d.condvars.thread_wait_cv d.waits d.cv_woken h u f h.cv_waits h.waits b in
      rw e (record {
        state = k.state ∙ ap (λ (x : List (List Pair)). with_queues (tables d) x) (rw e at (set-get_or (map pairs_of d.condvars.cv_waiters) c []));
        count = k.count;
        bytes = k.bytes;
        valid = k.valid;
      })

  -- The event c1 keeps its promise on any other queue.
  pub first_does : (p : Pair) (l : List Pair) (v : Waits) (o : Option (List ℕ)) (f : Detector) (n : ℕ) (b e : List ℕ)
      → queue_of (tables d) c ≡ p ∷ l → pairs_of q ≡ l → judged v o ≡ attempted d.rwlock_readers d.waits p → InRange v
      → f ≡ put_woken (queued_state d c q d.condvars.thread_wait_cv d.waits d.cv_woken) v (with d.cv_woken p.thread)
      → n ≡ length (judged v o).reports → e ≡ laid b 0 (written (judged v o).reports)
      → Does f n b e (notify_one (tables d) c)
  unfolding notify_one
  first_does p l v o f n b e y g j i z k m =
      let a = queued_state d c q d.condvars.thread_wait_cv d.waits d.cv_woken in
      let x = wake_judged a p 0 0 b b (begun d) v o (wakes_start a b h.waits) j i in
      let rs = (judged v o).reports in
      let r = notify_does d c q l (p ∷ []) v (with d.cv_woken p.thread) (0 + length rs) (0 + length (written rs)) b (laid b 0 (written rs)) h u g (rw (wake_first _ _ _) x) in
      rw (y, z) (record { state = r.state; count = omega (arith, k, r.count); bytes = m ∙ r.bytes; valid = r.valid })
