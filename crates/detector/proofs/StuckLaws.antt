-- The rows of true waits, the search over them, and what it means for a thread to be stuck.
use mathlib.Core.Path.{◌≡◌, refl, sym, ap, ◌∙◌}
use mathlib.Core.Logic.{◌⊎◌, inl, inr, ◌↔◌, ⊎_elim}
use mathlib.Core.List.{List, [], ◌∷◌, ◌++◌, foldl}
use mathlib.Core.Bool.{Bool, true, false, cond, ◌||◌, false≢true}
use Rattle.std.specs.Prelude.{Option, None, Some, is_some, option_to_list, sum_by}
use Rattle.std.specs.List.{list_any}
use lib.ListN.{take}
use Prim.Native.Nat.{ℕ, zero, suc, ◌+◌, ◌*◌, ◌/◌, ◌%◌, ◌<◌, ◌≤◌, ◌^◌}
use native.Mathlib.Nat.{pow-suc}
use native.Mathlib.Omega.{arith}
use native.Mathlib.Decide.{ℕ_discrete}
use lib.Count.{ones}
use lib.Dec.{eqb, lit<}
use lib.ListN.{get_or, set, length, replicate, length-set}
use lib.Seq.{get_or-set_same, get_or-set_other, take-length}
use Rattle.std.proofs.lemmas.List.Sums.{sum_by_more}
use borrow.Author.Tests.{eq-eqb, ne_eqb}
use Rattle.sets.specs.Sets.{bit, has, with, upward}
use Rattle.sets.specs.Lists.{In, among}
use Rattle.sets.specs.Below.{those, each}
use Rattle.sets.proofs.Digits.{bit_cases, bit_zero, bit_has, has_bit, bit_with_same, bit_with_other, with_lt}
use Rattle.sets.proofs.Lists.{among_in}
use Rattle.sets.proofs.Below.{last_or, those_in, in_those, each_keeps, each_next, each_none}
use Rattle.sets.proofs.Tables.{set_all, fold_append}
use Rattle.sets.proofs.Walk.{upward_lt, upward_bit, digit_upward}
use Rattle.graph.specs.Ways.{Walk, stop, step}
use Rattle.graph.specs.Search.{row, find_path}
use Rattle.graph.specs.Graph.{Edge}
use Rattle.graph.proofs.Ways.{leads_walk}
use Rattle.graph.proofs.Paths.{path_found_lem, way_found}
use Rattle.waits.specs.Tables.{intent_of}
use Rattle.waits.specs.Owners.{blocking, waits_for}
use Rattle.waits.specs.declared.tables.Waits.{Waits}
use Rattle.waits.specs.declared.intent.WaitIntent.{WaitIntent}
use Rattle.waits.proofs.Laws.{owners_lt}
use Rattle.waits.proofs.Masks.{among_upward}
use Rattle.detector.specs.Tables.{Tables}
use Rattle.detector.specs.Stuck.{Truly, Stuck, mask_of, true_waits, found, any_back, stuck_in, edge_count}

-- ---- The mask of a list has what stands in the list

-- A number is in a set with i added if it is i or was there.
has_with : (m i x : ℕ) → has (with m i) x ≡ cond (eqb x i) true (has m x)
has_with m i x = go (ℕ_discrete x i)
  where
    go : Dec (x ≡ i) → has (with m i) x ≡ cond (eqb x i) true (has m x)
    go (yes e) = rw (eq-eqb x i e) (bit_has (with m i) x (rw e (bit_with_same m i)))
    go (no n) = rw (ne_eqb x i n) (ap (λ (d : ℕ). eqb d 1) (bit_with_other m i x n))

-- After a whole list was added, a number is in the set if it stands in the list or was there.
has_fold : (l : List ℕ) (m x : ℕ) → has (foldl with m l) x ≡ cond (among x l) true (has m x)
unfolding among
has_fold [] m x = refl
has_fold (y ∷ l) m x = has_fold l (with m y) x ∙ ap (λ (b : Bool). cond (among x l) true b) (has_with m y x) ∙ go (among x l) (eqb x y)
  where
    go : (a b : Bool) → cond a true (cond b true (has m x)) ≡ cond (cond b true a) true (has m x)
    go true true = refl
    go true false = refl
    go false true = refl
    go false false = refl

-- A number is in the mask of a list if it stands in the list.
pub has_mask : (l : List ℕ) (x : ℕ) → has (mask_of l) x ≡ among x l
has_mask l x = has_fold l 0 x ∙ rw (bit_zero x) (go (among x l))
  where
    go : (b : Bool) → cond b true false ≡ b
    go true = refl
    go false = refl

-- Threads below 32 give a mask of 32 digits.
mask_lt : (l : List ℕ) (m : ℕ) → m < 2 ^ 32 → ((x : ℕ) → In x l → x < 32) → foldl with m l < 2 ^ 32
mask_lt [] m h s = h
mask_lt (y ∷ l) m h s = mask_lt l (with m y) (with_lt 32 m y h (s y (inl refl))) (λ x i. s x (inr i))

-- Masks with the same digits are the same.
same_digits : (k m n : ℕ) → m < 2 ^ k → n < 2 ^ k → ((i : ℕ) → i < k → bit m i ≡ bit n i) → m ≡ n
unfolding bit
same_digits zero m n a b h = omega arith
same_digits (suc k) m n a b h =
    let p : m < 2 ^ k * 2 = rw pow-suc at a in
    let q : n < 2 ^ k * 2 = rw pow-suc at b in
    let z : m % 2 ≡ n % 2 = h 0 (omega arith) in
    let r : m / 2 ≡ n / 2 = same_digits k (m / 2) (n / 2) (omega arith) (omega arith) (λ i l. h (suc i) (omega arith)) in
    omega arith

same_has : (m n i : ℕ) → has m i ≡ has n i → bit m i ≡ bit n i
same_has m n i e = go (bit_cases m i) (bit_cases n i)
  where
    go : (bit m i ≡ 0) ⊎ (bit m i ≡ 1) → (bit n i ≡ 0) ⊎ (bit n i ≡ 1) → bit m i ≡ bit n i
    go (inl p) (inl q) = p ∙ sym q
    go (inr p) (inr q) = p ∙ sym q
    go (inl p) (inr q) = absurd (false≢true (rw (p, q) at e))
    go (inr p) (inl q) = absurd (false≢true (sym (rw (p, q) at e)))

-- A set is the mask of its own numbers.
mask_upward : (m : ℕ) → m < 2 ^ 32 → mask_of (upward 32 m) ≡ m
mask_upward m h =
    same_digits 32 (mask_of (upward 32 m)) m (mask_lt (upward 32 m) 0 (lit< tt) (upward_lt 32 m)) h
    (λ i l. same_has _ m i (has_mask (upward 32 m) i ∙ among_upward m i l))

module _ (os : List ℕ) (m : ℕ) (o : Option ℕ) (h : m < 2 ^ 32) (e : upward 32 m ++ option_to_list o ≡ os) where
  -- The mask of the owners is the mask of the readers, with the last owner added if there is one.
  mask_owners : mask_of os ≡ foldl with m (option_to_list o)
  mask_owners = ap mask_of (sym e) ∙ fold_append with (upward 32 m) (option_to_list o) 0 ∙ ap (λ (x : ℕ). foldl with x (option_to_list o)) (mask_upward m h)

  pub mask_last : (x : ℕ) → o ≡ Some x → with m x ≡ mask_of os
  mask_last x q = sym (mask_owners ∙ rw q)

  pub mask_none : o ≡ None → m ≡ mask_of os
  mask_none q = sym (mask_owners ∙ rw q)

-- ---- The rows

-- Returns the table l with f k at every place k below n.
abbrev filled : (ℕ → ℕ) → List ℕ → ℕ → List ℕ
filled f l n = each (λ r t. set r t (f t)) l n

filled_length : (f : ℕ → ℕ) (l : List ℕ) (n : ℕ) → length (filled f l n) ≡ length l
filled_length f l n = each_keeps (λ (r : List ℕ). length r ≡ length l) _ n l (λ r t i e. length-set r t (f t) ∙ e) refl

-- At every place k below n, f k is read.
filled_at : (f : ℕ → ℕ) (l : List ℕ) (n : ℕ) → n ≤ length l → (k : ℕ) → k < n → row (filled f l n) k ≡ f k
unfolding each
filled_at f l zero h k i = absurd (omega arith)
filled_at f l (suc n) h k i =
    ⊎_elim
    (λ j. get_or-set_other (filled f l n) n k (f n) 0 (λ e. omega arith) ∙ filled_at f l n (omega arith) k j)
    (λ e. rw e (get_or-set_same (filled f l n) n (f n) 0 (omega (arith, filled_length f l n))))
    (last_or k n i)

-- Returns the rows of the threads below t, and empty rows for the others.
abbrev pub rows_below : List ℕ → Waits → ℕ → List ℕ
rows_below c w t = filled (λ t. mask_of (blocking c w (intent_of w t))) (replicate 32 0) t

-- A loop over the threads fills the rows one after the other.
pub rows_none : (c : List ℕ) (w : Waits) → replicate 32 0 ≡ rows_below c w 0
rows_none c w = sym (each_none _ _)

pub rows_more : (c : List ℕ) (w : Waits) (t m : ℕ) → m ≡ mask_of (blocking c w (intent_of w t)) → set (rows_below c w t) t m ≡ rows_below c w (t + 1)
rows_more c w t m e = rw e (each_next (λ r t. set r t (mask_of (blocking c w (intent_of w t)))) (replicate 32 0) t)

pub rows_all : (c : List ℕ) (w : Waits) → rows_below c w 32 ≡ true_waits c w
unfolding true_waits
rows_all c w = refl

module _ (c : List ℕ) (w : Waits) where
  -- The owners that block a thread are below 32.
  blocking_lt : (a : Option WaitIntent) (x : ℕ) → In x (blocking c w a) → x < 32
  blocking_lt None x i = absurd i
  blocking_lt (Some i) x m = owners_lt c w i x m

  -- Row t has u exactly when t truly waits for u.
  pub row_waits : (t u : ℕ) → t < 32 → has (row (true_waits c w) t) u ≡ waits_for c w t u
  unfolding true_waits waits_for
  row_waits t u h = rw (filled_at (λ t. mask_of (blocking c w (intent_of w t))) (replicate 32 0) 32 (omega arith) t h) (has_mask (blocking c w (intent_of w t)) u)

  -- Every row is a set of threads below 32.
  pub rows_narrow : (i : ℕ) → row (true_waits c w) i < 2 ^ 32
  unfolding true_waits
  rows_narrow =
      each_keeps (λ (r : List ℕ). (i : ℕ) → row r i < 2 ^ 32) _ 32 (replicate 32 0)
      (λ r t l h. set_all (λ (m : ℕ). m < 2 ^ 32) r t _ 0 (mask_lt (blocking c w (intent_of w t)) 0 (lit< tt) (blocking_lt (intent_of w t))) h)
      (zeros 32)
    where
      zeros : (n i : ℕ) → get_or {A = ℕ} (replicate n 0) i 0 < 2 ^ 32
      zeros zero i = lit< tt
      zeros (suc n) zero = lit< tt
      zeros (suc n) (suc i) = zeros n i

-- ---- The search

module _ (rows : List ℕ) (t : ℕ) where
  -- `any_back` is true exactly when there is a path to t from one of the threads.
  back_found : (us : List ℕ) → any_back rows t us ≡ true → (u : ℕ) × In u us × (found (find_path rows u t) ≡ true)
  unfolding any_back
  back_found [] e = absurd (false≢true e)
  back_found (u ∷ us) e = go (found (find_path rows u t)) refl e (back_found us)
    where
      go : (b : Bool) → found (find_path rows u t) ≡ b → cond b true (any_back rows t us) ≡ true
          → (any_back rows t us ≡ true → (u : ℕ) × In u us × (found (find_path rows u t) ≡ true))
          → (v : ℕ) × In v (u ∷ us) × (found (find_path rows v t) ≡ true)
      go true p e r = (u, inl refl, p)
      go false p e r = let q = r e in (q.0, inr q.1, q.2)

  found_back : (us : List ℕ) (u : ℕ) → In u us → found (find_path rows u t) ≡ true → any_back rows t us ≡ true
  unfolding any_back
  found_back [] u x'' p = elim x'' [ ]
  found_back (v ∷ us) u (inl e) p = rw (ap (λ (x : ℕ). found (find_path rows x t)) (sym e) ∙ p)
  found_back (v ∷ us) u (inr m) p = go (found (find_path rows v t)) (found_back us u m p)
    where
      go : (b : Bool) → any_back rows t us ≡ true → cond b true (any_back rows t us) ≡ true
      go true r = refl
      go false r = r

-- `any_back` is the library's test of each thread of the list.
pub back_list : (rows : List ℕ) (t : ℕ) (us : List ℕ) → list_any (λ u. is_some (find_path rows u t)) us ≡ any_back rows t us
unfolding any_back
back_list rows t [] = refl
back_list rows t (u ∷ us) = go (find_path rows u t) ∙ ap (cond (found (find_path rows u t)) true) (back_list rows t us)
  where
    go : (o : Option (List ℕ)) → (is_some o || list_any (λ v. is_some (find_path rows v t)) us) ≡ cond (found o) true (list_any (λ v. is_some (find_path rows v t)) us)
    go None = refl
    go (Some p) = refl

-- ---- Counting

-- The edges of the rows below n are the sum over the first n rows.
edges_taken : (rows : List ℕ) (n : ℕ) → n ≤ length rows → sum_by ones (take n rows) ≡ each (λ m t. m + ones (row rows t)) 0 n
unfolding each
edges_taken rows zero h = refl
edges_taken rows (suc n) h =
    let e : suc n ≡ n + 1 = omega arith in
    ap (λ (m : ℕ). sum_by ones (take m rows)) e ∙ sum_by_more ones rows n 0 (omega arith) ∙ ap (λ (m : ℕ). m + ones (row rows n)) (edges_taken rows n (omega arith))

pub edges_sum : (rows : List ℕ) → length rows ≡ 32 → sum_by ones rows ≡ edge_count rows
unfolding edge_count
edges_sum rows e = ap (sum_by ones) (sym (take-length rows) ∙ ap (λ (n : ℕ). take n rows) e) ∙ edges_taken rows 32 (omega arith)

-- ---- THEOREM: the search finds exactly the stuck threads

module _ (x : Tables) where
  -- Returns the rows of true waits.
  abbrev rows : List ℕ
  rows = true_waits x.rwlock_readers x.waits

  -- The edges of the rows are the true waits of the 32 threads.
  edge_truly : (a b : ℕ) → a < 32 → Edge rows a b → Truly x a b
  edge_truly a b h e = sym (row_waits x.rwlock_readers x.waits a b h) ∙ bit_has (row rows a) b e

  truly_edge : (a b : ℕ) → a < 32 → Truly x a b → Edge rows a b
  truly_edge a b h e = has_bit (row rows a) b (row_waits x.rwlock_readers x.waits a b h ∙ e)

  -- A thread that somebody truly waits for is below 32.
  truly_lt : (a b : ℕ) → Truly x a b → b < 32
  unfolding waits_for
  truly_lt a b e = blocking_lt x.rwlock_readers x.waits (intent_of x.waits a) b (among_in b _ e)

  -- A walk of true waits from one of the 32 threads is a walk in the rows, and the other way round.
  walk_rows : {a b : ℕ} → Walk (Truly x) a b → a < 32 → Walk (Edge rows) a b
  walk_rows (stop e) h = stop e
  walk_rows (step {a} {c} e w) h = step (truly_edge a c h e) (walk_rows w (truly_lt a c e))

  rows_walk : {a b : ℕ} → Walk (Edge rows) a b → a < 32 → Walk (Truly x) a b
  rows_walk (stop e) h = stop e
  rows_walk (step {a} {c} e w) h = let k = edge_truly a c h e in step k (rows_walk w (truly_lt a c k))

  -- A path that is found is a walk.
  found_walk : (u t : ℕ) → u < 32 → found (find_path rows u t) ≡ true → Walk (Edge rows) u t
  found_walk u t h = go (find_path rows u t) refl
    where
      go : (o : Option (List ℕ)) → find_path rows u t ≡ o → found o ≡ true → Walk (Edge rows) u t
      go None e f = absurd (false≢true f)
      go (Some p) e f = leads_walk (Edge rows) u t p (path_found_lem rows (rows_narrow x.rwlock_readers x.waits) u t h p e).leads

  -- The search finds t exactly when t is stuck.
  pub stuck_meaning : (t : ℕ) → t < 32 → (stuck_in rows t ≡ true) ↔ Stuck x t
  stuck_meaning t h = (out, back)
    where
      out : stuck_in rows t ≡ true → Stuck x t
      out e =
          let b = back_found rows t (upward 32 (row rows t)) e in
          let u = b.0 in
          let l = upward_lt 32 (row rows t) u b.1 in
          record {
            via = u;
            waits = edge_truly t u h (upward_bit 32 (row rows t) u b.1);
            back = rows_walk (found_walk u t l b.2) l;
          }

      back : Stuck x t → stuck_in rows t ≡ true
      back s =
          let u = s.via in
          let l = truly_lt t u s.waits in
          let p = way_found rows (rows_narrow x.rwlock_readers x.waits) u t l (walk_rows s.back l) in
          found_back rows t (upward 32 (row rows t)) u (digit_upward 32 (row rows t) u l (truly_edge t u h s.waits)) (ap found p.1)

  -- A walk of true waits from one of the 32 threads ends at one of them.
  walk_lt : {a b : ℕ} → Walk (Truly x) a b → a < 32 → b < 32
  walk_lt (stop e) h = omega arith
  walk_lt (step {a} {c} e w) h = walk_lt w (truly_lt a c e)

  -- So the threads that are counted are the stuck threads, each once, and no thread above 31 is stuck.
  pub stuck_listed : (t : ℕ) → In t (those (stuck_in rows) 32) ↔ Stuck x t
  stuck_listed t = (out, back)
    where
      out : In t (those (stuck_in rows) 32) → Stuck x t
      out m = let p = those_in (stuck_in rows) 32 t m in (stuck_meaning t p.0).0 p.1

      back : Stuck x t → In t (those (stuck_in rows) 32)
      back s =
          let h = walk_lt s.back (truly_lt t s.via s.waits) in
          in_those (stuck_in rows) 32 t h ((stuck_meaning t h).1 s)
