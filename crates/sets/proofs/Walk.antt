-- The walk over a set goes upward, by counting trailing zeros. Every loop over a set uses `fold_step`, and `fold_done`
-- at its end.
use mathlib.Core.Path.{◌≡◌, refl, sym, ap, ap₂, ◌∙◌, subst}
use mathlib.Core.Logic.{◌⊎◌, inl, inr, ⊎_elim}
use mathlib.Core.List.{List, [], ◌∷◌, foldl}
use Prim.Native.Nat.{ℕ, zero, suc, ◌+◌, ◌-◌, ◌*◌, ◌/◌, ◌%◌, ◌^◌, ◌≤◌, ◌<◌}
use native.Mathlib.Nat.{pow-suc}
use native.Mathlib.Omega.{arith}
use lib.Pow.{pow_pos}
use lib.Bits.{bit_and, and_step, and_self}
use lib.Count.{count_trailing_zeros}
use lib.ListN.{get_or, length}
use Rattle.sets.specs.Sets.{bit, without, cons_if, upward_from, upward, lowest}
use Rattle.sets.specs.Lists.{In}
use Rattle.sets.proofs.Digits.{digit_cases, bit_below, without_old}

-- ---- The lowest number

-- The lowest number of a set below 2 ^ k is below k.
pub lowest_lt : (k m : ℕ) → 0 < m → m < 2 ^ k → lowest k m < k
unfolding count_trailing_zeros
lowest_lt zero m p h = absurd (omega arith)
lowest_lt (suc k) m p h =
    let q : m < 2 ^ k * 2 = rw pow-suc at h in
    ⊎_elim (λ e. rw e (omega (arith, lowest_lt k (m / 2) (omega arith) (omega arith)))) (λ e. rw e (omega arith)) (digit_cases m)

-- The lowest number is in the set.
pub lowest_bit : (k m : ℕ) → 0 < m → m < 2 ^ k → bit m (lowest k m) ≡ 1
unfolding count_trailing_zeros bit
lowest_bit zero m p h = absurd (omega arith)
lowest_bit (suc k) m p h =
    let q : m < 2 ^ k * 2 = rw pow-suc at h in
    ⊎_elim (λ e. rw e (lowest_bit k (m / 2) (omega arith) (omega arith))) (λ e. rw e e) (digit_cases m)

-- m & (m - 1) takes the lowest number out.
pub without_lowest : (k m : ℕ) → 0 < m → m < 2 ^ k → bit_and m (m - 1) ≡ without m (lowest k m)
unfolding count_trailing_zeros without
without_lowest zero m p h = absurd (omega arith)
without_lowest (suc k) m p h =
    let q : m < 2 ^ k * 2 = rw pow-suc at h in
    and_step m (m - 1) ∙
    ⊎_elim
    (λ e. rw e (let s : (m - 1) / 2 ≡ m / 2 - 1 = omega arith in rw (s, without_lowest k (m / 2) (omega arith) (omega arith)) (omega arith)))
    (λ e. rw e (let s : (m - 1) / 2 ≡ m / 2 = omega arith in rw (s, and_self) (omega arith))) (digit_cases m)

-- At a greater width the lowest number is the same.
lowest_wide : (k j m : ℕ) → k ≤ j → 0 < m → m < 2 ^ k → lowest j m ≡ lowest k m
unfolding count_trailing_zeros
lowest_wide zero j m w p h = absurd (omega arith)
lowest_wide (suc k) zero m w p h = absurd (omega arith)
lowest_wide (suc k) (suc j) m w p h =
    let q : m < 2 ^ k * 2 = rw pow-suc at h in
    ⊎_elim (λ e. rw e (ap suc (lowest_wide k j (m / 2) (omega arith) (omega arith) (omega arith)))) (λ e. rw e refl) (digit_cases m)

-- The mask gets smaller, so a walk ends.
pub without_lowest_lt : (k m : ℕ) → 0 < m → m < 2 ^ k → without m (lowest k m) < m
without_lowest_lt k m p h = omega (arith, without_old m (lowest k m) (lowest_bit k m p h), pow_pos (lowest k m))

-- ---- The numbers of a set, upward

-- The empty set has no number.
pub upward_zero : (k i : ℕ) → upward_from k i 0 ≡ []
unfolding upward_from
upward_zero zero i = refl
upward_zero (suc k) i = upward_zero k (suc i)

-- The lowest digit decides whether the first number is listed.
upward_digit : (k i x d : ℕ) → d < 2 → upward_from (suc k) i (x * 2 + d) ≡ cons_if d i (upward_from k (suc i) x)
unfolding upward_from
upward_digit k i x d h =
    let a : (x * 2 + d) % 2 ≡ d = omega arith in
    let b : (x * 2 + d) / 2 ≡ x = omega arith in
    ap₂ (λ (p q : ℕ). cons_if p i (upward_from k (suc i) q)) a b

-- The lowest number comes first, whatever number the lowest digit has.
step_from : (k i m : ℕ) → 0 < m → m < 2 ^ k → upward_from k i m ≡ (i + lowest k m) ∷ upward_from k i (without m (lowest k m))
unfolding upward_from count_trailing_zeros without
step_from zero i m p h = absurd (omega arith)
step_from (suc k) i m p h =
    let q : m < 2 ^ k * 2 = rw pow-suc at h in
    let t : ℕ = lowest k (m / 2) in
    ⊎_elim
    (λ e.
    rw e
    (let v : without (m / 2) t * 2 + m % 2 ≡ without (m / 2) t * 2 + 0 = omega arith in
    let n : suc i + t ≡ i + suc t = omega arith in
    step_from k (suc i) (m / 2) (omega arith) (omega arith)
    ∙ ap₂ {C = List ℕ} ◌∷◌ n (sym (ap (upward_from (suc k) i) v ∙ upward_digit k i (without (m / 2) t) 0 (omega arith)))))
    (λ e.
    rw e
    (let v : m / 2 * 2 ≡ m / 2 * 2 + 0 = omega arith in
    let n : i ≡ i + 0 = omega arith in
    ap₂ {C = List ℕ} ◌∷◌ n (sym (ap (upward_from (suc k) i) v ∙ upward_digit k i (m / 2) 0 (omega arith)))))
    (digit_cases m)

-- The lowest number comes first, and the numbers of the set without it follow.
pub upward_step : (k m : ℕ) → 0 < m → m < 2 ^ k → upward k m ≡ lowest k m ∷ upward k (without m (lowest k m))
upward_step k m p h = step_from k 0 m p h ∙ ap (λ (x : ℕ). x ∷ upward k (without m (lowest k m))) (omega arith)

-- A step of the code's walk, which counts zeros at the width of 64, yields the first number and leaves the others.
pub walk_step : (k m : ℕ) → k ≤ 64 → 0 < m → m < 2 ^ k → upward k m ≡ lowest 64 m ∷ upward k (bit_and m (m - 1))
walk_step k m w p h = rw (lowest_wide k 64 m w p h, without_lowest k m p h) (upward_step k m p h)

-- A step of the walk leaves a set of the same width.
pub walk_lt : (k m : ℕ) → 0 < m → m < 2 ^ k → bit_and m (m - 1) < 2 ^ k
walk_lt k m p h = rw (without_lowest k m p h) (omega (arith, without_lowest_lt k m p h))

-- A fold over a set takes the lowest number first and goes on with the rest.
pub fold_step : {B : Type 0} (f : B → ℕ → B) (b : B) (k m : ℕ) → 0 < m → m < 2 ^ k
    → foldl f b (upward k m) ≡ foldl f (f b (lowest k m)) (upward k (without m (lowest k m)))
fold_step f b k m p h = ap (foldl f b) (upward_step k m p h)

-- A fold over the empty set does nothing.
pub fold_done : {B : Type 0} (f : B → ℕ → B) (b : B) (k : ℕ) → foldl f b (upward k 0) ≡ b
fold_done f b k = ap (foldl f b) (upward_zero k 0)

-- ---- The walk lists exactly what is in the set

-- What stands in a list still does with a number in front, and what stands there then is that number or stood before.
in_cons_if : (d i x : ℕ) (l : List ℕ) → In x l → In x (cons_if d i l)
in_cons_if zero i x l h = h
in_cons_if (suc d) i x l h = inr h

cons_if_in : (d i x : ℕ) (l : List ℕ) → In x (cons_if d i l) → ((x ≡ i) × (0 < d)) ⊎ In x l
cons_if_in zero i x l h = inr h
cons_if_in (suc d) i x l (inl e) = inl (e, omega arith)
cons_if_in (suc d) i x l (inr m) = inr m

-- A number listed has digit 1, and a number with digit 1 is listed, whatever number the lowest digit has.
from_bit : (k i m x : ℕ) → In x (upward_from k i m) → (i ≤ x) × (x < i + k) × (bit m (x - i) ≡ 1)
unfolding upward_from bit
from_bit zero i m x h = absurd h
from_bit (suc k) i m x h =
    ⊎_elim
    (λ e. let z : x - i ≡ 0 = omega arith in (omega arith, omega arith, rw z (omega (arith, ⊎_elim {C = m % 2 ≡ 1} (λ q. absurd (omega arith)) (λ q. q) (digit_cases m)))))
    (λ q.
    let r = from_bit k (suc i) (m / 2) x q in
    let z : x - i ≡ suc (x - suc i) = omega arith in
    (omega arith, omega arith, rw z r.2))
    (cons_if_in (m % 2) i x _ h)

bit_from : (k i m y : ℕ) → y < k → bit m y ≡ 1 → In (i + y) (upward_from k i m)
unfolding bit upward_from
bit_from zero i m y h e = absurd (omega arith)
bit_from (suc k) i m zero h e = rw e (inl (omega arith))
bit_from (suc k) i m (suc y) h e =
    let n : i + suc y ≡ suc i + y = omega arith in
    rw n (in_cons_if (m % 2) i (suc i + y) _ (bit_from k (suc i) (m / 2) y (omega arith) e))

-- Every number listed is below k.
pub upward_lt : (k m x : ℕ) → In x (upward k m) → x < k
upward_lt k m x h = let r = from_bit k 0 m x h in omega arith

-- The first number listed is below k.
pub first_lt : (k m x : ℕ) (l : List ℕ) → upward k m ≡ x ∷ l → x < k
first_lt k m x l e = upward_lt k m x (rw e (inl refl))

-- Every number listed is in the set.
pub upward_bit : (k m x : ℕ) → In x (upward k m) → bit m x ≡ 1
upward_bit k m x h = let z : x - 0 ≡ x = omega arith in rw z at (from_bit k 0 m x h).2

-- Every number below k that is in the set is listed.
pub digit_upward : (k m x : ℕ) → x < k → bit m x ≡ 1 → In x (upward k m)
digit_upward k m x h e =
    let z : 0 + x ≡ x = omega arith in
    subst (λ (y : ℕ). In y (upward k m)) z (bit_from k 0 m x h e)

-- If the set is below 2 ^ k, every number in it is listed.
pub bit_upward : (k m x : ℕ) → m < 2 ^ k → bit m x ≡ 1 → In x (upward k m)
bit_upward k m x h e = digit_upward k m x (bit_below k m x h e) e

-- What stands at a place of a list stands in it.
in_at : (l : List ℕ) (i d : ℕ) → i < length l → In (get_or l i d) l
in_at [] i d h = absurd (omega arith)
in_at (x ∷ l) zero d h = inl refl
in_at (x ∷ l) (suc i) d h = inr (in_at l i d (omega arith))

-- Each number of the walk is below k.
pub upward_at_lt : (k m i d : ℕ) → i < length (upward k m) → get_or (upward k m) i d < k
upward_at_lt k m i d h = upward_lt k m _ (in_at (upward k m) i d h)
