-- The decimal digits of a number.
use mathlib.Core.Path.{◌≡◌, refl, sym, ap, ◌∙◌}
use mathlib.Core.Bool.{Bool, true, false, cond}
use mathlib.Core.List.{List, [], ◌∷◌, ◌++◌, append-nil}
use Prim.Native.Nat.{ℕ, zero, suc, ◌+◌, ◌-◌, ◌*◌, ◌/◌, ◌%◌, ◌<◌, ◌≤◌, ◌^◌}
use native.Mathlib.Omega.{arith}
use native.Mathlib.Nat.{pow-suc}
use native.Mathlib.Numerals.{add-one}
use borrow.Author.Tests.{ltb-true, ltb-false, lt-ltb, le-ltb}
use lib.Dec.{ltb}
use lib.ListN.{length, set, length-append}
use lib.Seq.{sets, append_snoc}
use Rattle.text.specs.Decimal.{digit, decimal_in, decimal}
use Rattle.text.proofs.Puts.{set_sets}

fuel_pick : (t : Bool) (n : ℕ) (a b : List ℕ) → (t ≡ false → a ≡ b) → cond t (digit n ∷ []) (a ++ (digit (n % 10) ∷ [])) ≡ cond t (digit n ∷ []) (b ++ (digit (n % 10) ∷ []))
fuel_pick true n a b h = refl
fuel_pick false n a b h = rw (h refl)

-- Any two bounds that are large enough give the same digits.
fuel : (f g n : ℕ) → n ≤ f → n ≤ g → decimal_in f n ≡ decimal_in g n
unfolding decimal_in
fuel zero zero n h k = refl
fuel zero (suc g) n h k = rw (lt-ltb n 10 (omega arith))
fuel (suc f) zero n h k = rw (lt-ltb n 10 (omega arith))
fuel (suc f) (suc g) n h k = fuel_pick (ltb n 10) n (decimal_in f (n / 10)) (decimal_in g (n / 10)) (λ e. fuel f g (n / 10) (omega arith) (omega arith))

-- A number below ten is its only digit.
pub decimal_one : (n : ℕ) → n < 10 → decimal n ≡ digit n ∷ []
unfolding decimal decimal_in
decimal_one zero h = refl
decimal_one (suc n) h = rw (lt-ltb (suc n) 10 h)

-- A number from ten on has the digits of its tenth, then its last digit.
pub decimal_more : (n : ℕ) → 10 ≤ n → decimal n ≡ decimal (n / 10) ++ (digit (n % 10) ∷ [])
unfolding decimal decimal_in
decimal_more zero h = absurd (omega arith)
decimal_more (suc n) h = rw (le-ltb (suc n) 10 h) (ap (λ (x : List ℕ). x ++ (digit (suc n % 10) ∷ [])) (fuel n (suc n / 10) (suc n / 10) (omega arith) (omega arith)))

-- It has one digit more than its tenth.
pub decimal_length : (n : ℕ) → 10 ≤ n → length (decimal n) ≡ length (decimal (n / 10)) + 1
decimal_length n h = ap length (decimal_more n h) ∙ length-append (decimal (n / 10)) (digit (n % 10) ∷ [])

short_pick : (t : Bool) (k n : ℕ) → ltb n 10 ≡ t → n < 10 ^ suc (suc k) → (n / 10 < 10 ^ suc k → length (decimal (n / 10)) ≤ suc k) → length (decimal n) ≤ suc (suc k)
short_pick true k n e h r = rw (decimal_one n (ltb-true n 10 e)) (omega arith)
short_pick false k n e h r =
    let s : length (decimal (n / 10)) ≤ suc k = r (omega (arith, pow-suc 10 (suc k))) in
    omega (arith, decimal_length n (ltb-false n 10 e))

-- A number below 10 ^ (k + 1) has at most k + 1 digits.
pub decimal_short : (k n : ℕ) → n < 10 ^ suc k → length (decimal n) ≤ suc k
decimal_short zero n h = rw (decimal_one n h) (omega arith)
decimal_short (suc k) n h = short_pick (ltb n 10) k n refl h (decimal_short k (n / 10))

-- A number of 64 bits has at most 20 digits.
pub decimal_bound : (n : ℕ) → n < 2 ^ 64 → length (decimal n) ≤ 20
decimal_bound n h = decimal_short 19 n (omega arith)

some_pick : (t : Bool) (n : ℕ) → ltb n 10 ≡ t → 0 < length (decimal n)
some_pick true n e = rw (decimal_one n (ltb-true n 10 e)) (omega arith)
some_pick false n e = omega (arith, decimal_length n (ltb-false n 10 e))

-- Every number has a digit.
pub decimal_some : (n : ℕ) → 0 < length (decimal n)
decimal_some n = some_pick (ltb n 10) n refl

-- ---- Digits put from the last to the first

-- Returns the last k digits of n, with zeros before them if it has fewer.
abbrev pub low : ℕ → ℕ → List ℕ
low zero n = []
low (suc k) n = low k (n / 10) ++ (digit (n % 10) ∷ [])

low_length : (k n : ℕ) → length (low k n) ≡ k
low_length zero n = refl
low_length (suc k) n = length-append (low k (n / 10)) (digit (n % 10) ∷ []) ∙ rw (low_length k (n / 10)) (omega arith)

ten_pos : (k : ℕ) → 0 < 10 ^ k
ten_pos zero = omega arith
ten_pos (suc k) = omega (arith, pow-suc 10 k, ten_pos k)

low_all : (k n : ℕ) → 10 ^ k ≤ n → n < 10 ^ suc k → low (suc k) n ≡ decimal n
low_all zero n g h = ap (λ (d : ℕ). digit d ∷ []) (omega arith) ∙ sym (decimal_one n h)
low_all (suc k) n g h =
    ap (λ (x : List ℕ). x ++ (digit (n % 10) ∷ [])) (low_all k (n / 10) (omega (arith, pow-suc 10 k)) (omega (arith, pow-suc 10 (suc k))))
    ∙ sym (decimal_more n (omega (arith, pow-suc 10 k, ten_pos k)))

-- One digit more than the logarithm are all digits.
module _ (n k : ℕ) (g : 10 ^ k ≤ n) (h : n < 10 * 10 ^ k) where
  pub low_log : low (k + 1) n ≡ decimal n
  low_log = rw add-one (low_all k n g (omega (arith, pow-suc 10 k)))

  pub log_length : length (decimal n) ≡ k + 1
  log_length = ap length (sym low_log) ∙ low_length (k + 1) n

-- States that the digits of rest are still to be put from the place `at` up to i, and that the digits of n after them
-- stand in the buffer.
pub record Rest (n at i rest : ℕ) (d d' : List ℕ) : Type 0 where
  pub put : List ℕ
  pub above : at ≤ i
  pub whole : decimal n ≡ low (i - at) rest ++ put
  pub bytes : d' ≡ sets d i put

-- Before the first turn no digit stands in the buffer.
pub rest_none : (n at i k : ℕ) (d : List ℕ) → i ≡ at + k + 1 → low (k + 1) n ≡ decimal n → Rest n at i n d d
rest_none n at i k d e h =
    let j : i - at ≡ k + 1 = omega arith in
    record { put = []; above = omega arith; whole = rw j (sym (append-nil (low (k + 1) n) ∙ h)); bytes = refl }

-- A turn puts the last digit of rest and goes on with its tenth.
pub rest_more : {n at i rest : ℕ} {d d' : List ℕ} → at < i → Rest n at i rest d d' → Rest n at (i - 1) (rest / 10) d (set d' (i - 1) (digit (rest % 10)))
rest_more {n} {at} {i} {rest} {d} {d'} h r =
    let j : i - at ≡ suc (i - 1 - at) = omega arith in
    let k : i ≡ suc (i - 1) = omega arith in
    record {
      put = digit (rest % 10) ∷ r.put;
      above = omega arith;
      whole = r.whole ∙ rw j (append_snoc (low (i - 1 - at) (rest / 10)) (digit (rest % 10)) r.put);
      bytes = rw r.bytes (set_sets d (i - 1) i (digit (rest % 10)) r.put (omega arith)) ∙ ap (λ (m : ℕ). sets (set d (i - 1) (digit (rest % 10))) m r.put) k;
    }

-- After the last turn all digits stand.
pub rest_all : {n at i rest : ℕ} {d d' : List ℕ} → i ≤ at → Rest n at i rest d d' → d' ≡ sets d at (decimal n)
rest_all {n} {at} {i} {rest} {d} {d'} h r =
    let j : i - at ≡ 0 = omega arith in
    let k : i ≡ at = omega arith in
    let w : decimal n ≡ r.put = r.whole ∙ rw j in
    r.bytes ∙ rw (k, w)
