-- Laws of `every`, `those` and `each`.
use mathlib.Core.Path.{◌≡◌, refl, sym, ap, ap₂, ◌∙◌}
use mathlib.Core.Logic.{◌⊎◌, inl, inr, ⊎_elim}
use mathlib.Core.List.{List, [], ◌∷◌, ◌++◌}
use mathlib.Core.Bool.{Bool, true, false, cond, true≢false, false≢true}
use Prim.Native.Nat.{ℕ, zero, suc, ◌+◌, ◌/◌, ◌%◌, ◌<◌}
use native.Mathlib.Omega.{arith}
use native.Mathlib.Nat.{eq-or-lt_of_le}
use lib.Dec.{eqb}
use Rattle.std.specs.Prelude.{filter, map}
use Rattle.std.specs.List.{list_all, range_with_len}
use Rattle.std.proofs.lemmas.List.{map-id}
use Rattle.std.proofs.lemmas.List.FromFn.{filter_of_map_range_with_len_more}
use mathlib.Core.Bool.{◌&&◌}
use Rattle.sets.specs.Sets.{bit, has, cons_if, upward_from, upward}
use Rattle.sets.specs.Lists.{In}
use Rattle.sets.specs.Below.{every, those, each}
use Rattle.sets.proofs.Lists.{in_left, in_right, in_either}

-- A number below n + 1 is below n or is n.
pub last_or : (k n : ℕ) → k < suc n → (k < n) ⊎ (k ≡ n)
last_or k n h = ⊎_elim inr inl (eq-or-lt_of_le {n = k} {m = n} (omega arith))

-- ---- Laws of `every`

-- If `every` is true, f is true of each number below n.
pub every_at : (f : ℕ → Bool) (n : ℕ) → every f n ≡ true → (k : ℕ) → k < n → f k ≡ true
unfolding every
every_at f zero h k l = absurd (omega arith)
every_at f (suc n) h k l = go (every f n) (every_at f n) h (last_or k n l)
  where
    go : (b : Bool) → (b ≡ true → (k : ℕ) → k < n → f k ≡ true) → cond b (f n) false ≡ true → (k < n) ⊎ (k ≡ n) → f k ≡ true
    go true r h (inl i) = r refl k i
    go true r h (inr e) = rw e h
    go false r h i = absurd (false≢true h)

-- If f is true of each number below n, `every` is true.
pub every_of : (f : ℕ → Bool) (n : ℕ) → ((k : ℕ) → k < n → f k ≡ true) → every f n ≡ true
unfolding every
every_of f zero h = refl
every_of f (suc n) h = rw (every_of f n (λ k l. h k (omega arith)), h n (omega arith))

-- If f is true of the numbers below n and of n, it is true of those below n + 1.
pub every_more : (f : ℕ → Bool) (n : ℕ) → every f n ≡ true → f n ≡ true → every f (suc n) ≡ true
unfolding every
every_more f n h e = rw (h, e)

-- One number for which f is false makes `every` false.
pub every_not : (f : ℕ → Bool) (n k : ℕ) → k < n → f k ≡ false → every f n ≡ false
every_not f n k l e = go (every f n) refl
  where
    go : (b : Bool) → every f n ≡ b → every f n ≡ false
    go true h = absurd (true≢false (sym (every_at f n h k l) ∙ e))
    go false h = h

-- ---- Laws of `those`

-- Each number in the list is below n, and f is true of it.
pub those_in : (f : ℕ → Bool) (n k : ℕ) → In k (those f n) → (k < n) × (f k ≡ true)
unfolding those
those_in f zero k m = absurd m
those_in f (suc n) k m = ⊎_elim (λ i. let r = those_in f n k i in (omega arith, r.1)) (λ i. last (f n) refl i) (in_either k (those f n) _ m)
  where
    last : (b : Bool) → f n ≡ b → In k (cond b (n ∷ []) []) → (k < suc n) × (f k ≡ true)
    last true e (inl q) = (omega arith, rw q e)
    last true e (inr q) = absurd q
    last false e i = absurd i

-- Each number below n of which f is true is in the list.
pub in_those : (f : ℕ → Bool) (n k : ℕ) → k < n → f k ≡ true → In k (those f n)
unfolding those
in_those f zero k h e = absurd (omega arith)
in_those f (suc n) k h e =
    ⊎_elim (λ i. in_left k (those f n) _ (in_those f n k i e)) (λ i. in_right k (those f n) _ (let z : f n ≡ true = sym (ap f i) ∙ e in rw z (inl i))) (last_or k n h)

-- Two tests that agree below n give the same list.
pub those_same : (f g : ℕ → Bool) (n : ℕ) → ((k : ℕ) → k < n → f k ≡ g k) → those f n ≡ those g n
unfolding those
those_same f g zero h = refl
those_same f g (suc n) h = rw (those_same f g n (λ k l. h k (omega arith)), h n (omega arith))

-- ---- The numbers of a set are those for which `has` is true

cons_if_append : (d i : ℕ) (a b : List ℕ) → cons_if d i (a ++ b) ≡ cons_if d i a ++ b
cons_if_append zero i a b = refl
cons_if_append (suc d) i a b = refl

-- The number of the highest digit comes last.
upward_last : (k i m : ℕ) → upward_from (suc k) i m ≡ upward_from k i m ++ cond (has m k) ((i + k) ∷ []) []
unfolding upward_from bit
upward_last zero i m = go (m % 2) (omega arith)
  where
    go : (d : ℕ) → d < 2 → cons_if d i [] ≡ cond (eqb d 1) ((i + 0) ∷ []) []
    go zero h = refl
    go (suc zero) h = ap (λ (x : ℕ). x ∷ []) (omega arith)
    go (suc (suc d)) h = absurd (omega arith)
upward_last (suc k) i m =
    let n : suc i + k ≡ i + suc k = omega arith in
    ap (cons_if (m % 2) i) (upward_last k (suc i) (m / 2))
    ∙ cons_if_append (m % 2) i (upward_from k (suc i) (m / 2)) _
    ∙ rw n

-- The walk over a set upward lists exactly the numbers that are in it.
pub upward_those : (k m : ℕ) → upward k m ≡ those (has m) k
unfolding those upward_from
upward_those zero m = refl
upward_those (suc k) m = upward_last k 0 m ∙ ap₂ (λ (a : List ℕ) (x : ℕ). a ++ cond (has m k) (x ∷ []) []) (upward_those k m) (omega arith)

-- ---- Laws of `each`

-- What f keeps each time is kept in the end.
pub each_keeps : {A : Type 0} (P : A → Type 0) (f : A → ℕ → A) (n : ℕ) (x : A) → ((y : A) (k : ℕ) → k < n → P y → P (f y k)) → P x → P (each f x n)
unfolding each
each_keeps P f zero x h p = p
each_keeps P f (suc n) x h p = h (each f x n) n (omega arith) (each_keeps P f n x (λ y k l. h y k (omega arith)) p)

-- With one number more, f is applied for n last, as a loop does.
pub each_next : {A : Type 0} (f : A → ℕ → A) (x : A) (n : ℕ) → f (each f x n) n ≡ each f x (n + 1)
unfolding each
each_next f x n = let e : suc n ≡ n + 1 = omega arith in ap (λ (m : ℕ). each f x m) e

-- With no numbers, nothing is done.
pub each_none : {A : Type 0} (f : A → ℕ → A) (x : A) → each f x 0 ≡ x
unfolding each
each_none f x = refl

-- ---- `every` is the library's test of the numbers from 0 on

and_true : (b : Bool) → (b && true) ≡ b
and_true true = refl
and_true false = refl

and_cond : (a b c : Bool) → (a && cond b c false) ≡ cond (a && b) c false
and_cond true b c = refl
and_cond false b c = refl

-- The last number is tested last.
all_last : (f : ℕ → Bool) (a n : ℕ) → list_all f (range_with_len a (suc n)) ≡ cond (list_all f (range_with_len a n)) (f (a + n)) false
all_last f a zero = and_true (f a) ∙ ap f (omega arith)
all_last f a (suc n) =
    ap (λ (b : Bool). f a && b) (all_last f (a + 1) n)
    ∙ and_cond (f a) (list_all f (range_with_len (a + 1) n)) (f (a + 1 + n))
    ∙ ap (λ (k : ℕ). cond (f a && list_all f (range_with_len (a + 1) n)) (f k) false) (omega arith)

pub every_range : (f : ℕ → Bool) (n : ℕ) → list_all f (range_with_len 0 n) ≡ every f n
unfolding every
every_range f zero = refl
every_range f (suc n) = all_last f 0 n ∙ ap₂ (λ (b : Bool) (k : ℕ). cond b (f k) false) (every_range f n) (omega arith)

-- ---- `those` is the library's filter of the numbers from 0 on

those_mapped : (f : ℕ → Bool) (n : ℕ) → filter f (map (λ (k : ℕ). k) (range_with_len 0 n)) ≡ those f n
unfolding those
those_mapped f zero = refl
those_mapped f (suc n) =
    let e : suc n ≡ n + 1 = omega arith in
    ap (λ (m : ℕ). filter f (map (λ (k : ℕ). k) (range_with_len 0 m))) e
    ∙ filter_of_map_range_with_len_more f (λ k. k) 0 n n (omega arith)
    ∙ ap (λ (l : List ℕ). l ++ cond (f n) (n ∷ []) []) (those_mapped f n)

pub those_range : (f : ℕ → Bool) (n : ℕ) → filter f (range_with_len 0 n) ≡ those f n
those_range f n = ap (filter f) (sym (map-id (range_with_len 0 n))) ∙ those_mapped f n
