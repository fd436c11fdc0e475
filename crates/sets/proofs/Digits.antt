-- The digits of a set, and what the shifts and masks of the code do to them. The proofs go digit by digit.
use mathlib.Core.Path.{◌≡◌, refl, ap, ap₂, ◌∙◌}
use mathlib.Core.Logic.{◌⊎◌, inl, inr}
use mathlib.Core.Bool.{true, false}
use Prim.Native.Nat.{ℕ, zero, suc, ◌+◌, ◌-◌, ◌*◌, ◌/◌, ◌%◌, ◌^◌, ◌≤◌, ◌<◌}
use native.Mathlib.Nat.{pow-suc, div-div-eq-div-mul, mul_comm, mod-eq_of_lt}
use native.Mathlib.Omega.{arith}
use native.Mathlib.Decide.{ℕ_discrete}
use lib.Pow.{pow_pos, pow-lt, shl_exact}
use lib.Dec.{lit<}
use borrow.Author.Tests.{eqb-true, eqb-false, eq-eqb}
use lib.Bits.{bit_or, bit_and, or_step, and_step, or_zero_r, and_mask}
use lib.Count.{ones, ones_in, ones_step}
use Rattle.sets.specs.Sets.{bit, has, with, without}

-- The lowest digit is 0 or 1.
pub digit_cases : (m : ℕ) → (m % 2 ≡ 0) ⊎ (m % 2 ≡ 1)
digit_cases m = go (m % 2) refl
  where
    go : (d : ℕ) → m % 2 ≡ d → (m % 2 ≡ 0) ⊎ (m % 2 ≡ 1)
    go zero e = inl e
    go (suc zero) e = inr e
    go (suc (suc d)) e = absurd (omega arith)

-- Every digit is below 2.
pub bit_lt : (m i : ℕ) → bit m i < 2
unfolding bit
bit_lt m zero = omega arith
bit_lt m (suc i) = bit_lt (m / 2) i

-- Every digit is 0 or 1.
pub bit_cases : (m i : ℕ) → (bit m i ≡ 0) ⊎ (bit m i ≡ 1)
bit_cases m i = go (bit m i) refl
  where
    go : (d : ℕ) → bit m i ≡ d → (bit m i ≡ 0) ⊎ (bit m i ≡ 1)
    go zero e = inl e
    go (suc zero) e = inr e
    go (suc (suc d)) e = absurd (omega (arith, bit_lt m i))

-- A number is in a set exactly when its digit is 1; these three laws go from one form to the other.
pub has_bit : (m i : ℕ) → has m i ≡ true → bit m i ≡ 1
has_bit m i e = eqb-true _ _ e

pub not_bit : (m i : ℕ) → has m i ≡ false → bit m i ≡ 0
not_bit m i e = let n : bit m i ≡ 1 → ⊥ = eqb-false _ _ e in omega (arith, bit_lt m i)

pub bit_has : (m i : ℕ) → bit m i ≡ 1 → has m i ≡ true
bit_has m i e = eq-eqb _ _ e

-- The empty set has no number.
pub bit_zero : (i : ℕ) → bit 0 i ≡ 0
unfolding bit
bit_zero zero = refl
bit_zero (suc i) = bit_zero i

-- A set below 2 ^ k has no number from k on.
pub bit_below : (k m i : ℕ) → m < 2 ^ k → bit m i ≡ 1 → i < k
unfolding bit
bit_below zero m i h e = let z : m ≡ 0 = omega arith in omega (arith, rw z at e, bit_zero i)
bit_below (suc k) m zero h e = omega arith
bit_below (suc k) m (suc i) h e = let q : m < 2 ^ k * 2 = rw pow-suc at h in omega (arith, bit_below k (m / 2) i (omega arith) e)

-- ---- One number added or taken out

-- After i was added, it is in the set.
pub bit_with_same : (m i : ℕ) → bit (with m i) i ≡ 1
unfolding bit with
bit_with_same m zero = omega arith
bit_with_same m (suc i) = ap (λ (x : ℕ). bit x i) (omega arith) ∙ bit_with_same (m / 2) i

-- After i was taken out, it is not in the set.
pub bit_without_same : (m i : ℕ) → bit (without m i) i ≡ 0
unfolding bit without
bit_without_same m zero = omega arith
bit_without_same m (suc i) = ap (λ (x : ℕ). bit x i) (omega arith) ∙ bit_without_same (m / 2) i

-- Adding i changes no other digit.
pub bit_with_other : (m i j : ℕ) → (j ≡ i → ⊥) → bit (with m i) j ≡ bit m j
unfolding bit with
bit_with_other m zero zero n = absurd (n refl)
bit_with_other m zero (suc j) n = ap (λ (x : ℕ). bit x j) (omega arith)
bit_with_other m (suc i) zero n = omega arith
bit_with_other m (suc i) (suc j) n = ap (λ (x : ℕ). bit x j) (omega arith) ∙ bit_with_other (m / 2) i j (λ e. n (ap suc e))

-- Taking i out changes no other digit.
pub bit_without_other : (m i j : ℕ) → (j ≡ i → ⊥) → bit (without m i) j ≡ bit m j
unfolding bit without
bit_without_other m zero zero n = absurd (n refl)
bit_without_other m zero (suc j) n = ap (λ (x : ℕ). bit x j) (omega arith)
bit_without_other m (suc i) zero n = omega arith
bit_without_other m (suc i) (suc j) n = ap (λ (x : ℕ). bit x j) (omega arith) ∙ bit_without_other (m / 2) i j (λ e. n (ap suc e))

-- Adding a number leaves in what was in.
pub with_keeps : (m i j : ℕ) → bit m j ≡ 1 → bit (with m i) j ≡ 1
with_keeps m i j e = go (ℕ_discrete j i)
  where
    go : Dec (j ≡ i) → bit (with m i) j ≡ 1
    go (yes p) = rw p (bit_with_same m i)
    go (no p) = bit_with_other m i j p ∙ e

-- Taking out a number i that was in subtracts 2 ^ i.
pub without_old : (m i : ℕ) → bit m i ≡ 1 → without m i + 2 ^ i ≡ m
unfolding bit without
without_old m zero e = omega arith
without_old m (suc i) e = rw pow-suc (omega (arith, without_old (m / 2) i e))

-- Taking a number out makes the mask no larger.
pub without_le : (m i : ℕ) → without m i ≤ m
unfolding without
without_le m zero = omega arith
without_le m (suc i) = omega (arith, without_le (m / 2) i)

-- Adding a number below k keeps the mask below 2 ^ k.
pub with_lt : (k m i : ℕ) → m < 2 ^ k → i < k → with m i < 2 ^ k
unfolding with
with_lt zero m i h l = absurd (omega arith)
with_lt (suc k) m zero h l = let p : m < 2 ^ k * 2 = rw pow-suc at h in rw pow-suc (omega arith)
with_lt (suc k) m (suc i) h l =
    let p : m < 2 ^ k * 2 = rw pow-suc at h in
    rw pow-suc (omega (arith, with_lt k (m / 2) i (omega arith) (omega arith)))

-- ---- How many numbers a set has

ones_digit : (x d : ℕ) → d < 2 → ones (x * 2 + d) ≡ d + ones x
ones_digit x d h =
    let a : (x * 2 + d) % 2 ≡ d = omega arith in
    let b : (x * 2 + d) / 2 ≡ x = omega arith in
    ones_step (x * 2 + d) ∙ ap₂ (λ (p q : ℕ). p + ones q) a b

-- A number that was not in makes one more.
pub ones_with : (m i : ℕ) → bit m i ≡ 0 → ones (with m i) ≡ suc (ones m)
unfolding bit with
ones_with m zero e = omega (arith, ones_digit (m / 2) 1 (omega arith), ones_step m)
ones_with m (suc i) e =
    omega (arith, ones_digit (with (m / 2) i) (m % 2) (omega arith), ones_step m, ones_with (m / 2) i e)

-- The set of i alone has one number.
pub ones_single : (i : ℕ) → ones (with 0 i) ≡ 1
unfolding ones ones_in
ones_single i = ones_with 0 i (bit_zero i)

-- ---- The shifts and masks of the code, at any width

-- The lowest digit of m >> i is digit i of m.
pub bit_shift : (m i : ℕ) → m / 2 ^ i % 2 ≡ bit m i
unfolding bit
bit_shift m zero = ap (λ (x : ℕ). x % 2) (omega arith)
bit_shift m (suc i) = rw (pow-suc, mul_comm (2 ^ i) 2, ← div-div-eq-div-mul) (bit_shift (m / 2) i)

-- 1 << i is 2 ^ i, as long as i is below the width.
pub one_shl : (w i : ℕ) → i < w → (1 * 2 ^ i) % 2 ^ w ≡ 2 ^ i
one_shl w i h = shl_exact 1 i w (lit< tt) (omega arith) ∙ omega arith

-- Half of 2 ^ (i + 1) is 2 ^ i, and nothing is left over.
pow_half : (i : ℕ) → (2 ^ suc i / 2 ≡ 2 ^ i) × (2 ^ suc i % 2 ≡ 0)
pow_half i = let e : 2 ^ suc i ≡ 2 ^ i * 2 = pow-suc 2 i in (omega arith, omega arith)

-- m | (1 << i) adds i.
pub with_or : (m i : ℕ) → bit_or m (2 ^ i) ≡ with m i
unfolding with
with_or m zero = or_step m 1 ∙ rw or_zero_r (omega arith)
with_or m (suc i) =
    or_step m (2 ^ suc i) ∙ rw ((pow_half i).0, (pow_half i).1, with_or (m / 2) i) (omega arith)

-- m & !(1 << i) takes i out.
pub without_and : (w m i : ℕ) → m < 2 ^ w → i < w → bit_and m (2 ^ w - 1 - 2 ^ i) ≡ without m i
unfolding without
without_and zero m i h l = absurd (omega arith)
without_and (suc w) m zero h l =
    let q : m < 2 ^ w * 2 = rw pow-suc at h in
    let a : (2 ^ w * 2 - 1 - 1) / 2 ≡ 2 ^ w - 1 = omega (arith, pow_pos w) in
    let b : (2 ^ w * 2 - 1 - 1) % 2 ≡ 0 = omega (arith, pow_pos w) in
    and_step m (2 ^ suc w - 1 - 1)
    ∙ rw (pow-suc, a, b, and_mask, mod-eq_of_lt {n = m / 2} {m = 2 ^ w} (omega arith)) (omega arith)
without_and (suc w) m (suc i) h l =
    let q : m < 2 ^ w * 2 = rw pow-suc at h in
    let g : 2 ^ i < 2 ^ w = pow-lt (omega arith) in
    let a : (2 ^ w * 2 - 1 - 2 ^ i * 2) / 2 ≡ 2 ^ w - 1 - 2 ^ i = omega arith in
    let b : (2 ^ w * 2 - 1 - 2 ^ i * 2) % 2 ≡ 1 = omega arith in
    and_step m (2 ^ suc w - 1 - 2 ^ suc i)
    ∙ rw (pow-suc 2 w, pow-suc 2 i, a, b, without_and w (m / 2) i (omega arith) (omega arith)) (omega arith)
