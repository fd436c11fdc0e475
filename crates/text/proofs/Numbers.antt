-- Numbers read digit by digit, and texts compared byte by byte.
use mathlib.Core.Path.{◌≡◌, refl, sym, ap, ◌∙◌}
use mathlib.Core.Bool.{Bool, true, false, cond}
use mathlib.Core.List.{List, [], ◌∷◌}
use Rattle.std.specs.Prelude.{Option, Some, None}
use Rattle.std.proofs.lemmas.Bool.Decides.{nat_tests}
use Rattle.std.proofs.lemmas.Slice.Eq.{compares_Decides}
use Rattle.std.specs.Char.{IsNotAsciiDigit}
use Prim.Native.Nat.{ℕ, zero, suc, ◌+◌, ◌*◌, ◌-◌, ◌<◌, ◌≤◌, ◌^◌}
use borrow.Author.Rules.{rules}
use native.Mathlib.Omega.{arith}
use native.Mathlib.Decide.{ℕ_discrete}
use native.Mathlib.Numerals.{add-one}
use borrow.Author.Tests.{eq-eqb, ne_eqb, lt-ltb, le-ltb}
use lib.Dec.{eqb, ltb}
use lib.ListN.{length, drop, get_or, drop_of_length-le}
use lib.Seq.{drop-cons}
use Rattle.text.specs.Numbers.{digits_from, number_of}
use Rattle.text.specs.Bytes.{equal}

-- No bytes, too many, and a 0 that is followed by more are no numbers.
pub number_none : (s : List ℕ) → length s ≡ 0 → None ≡ number_of s
unfolding number_of
number_none [] h = refl
number_none (a ∷ s) h = absurd (omega arith)

pub number_long : (s : List ℕ) → 3 < length s → None ≡ number_of s
unfolding number_of
number_long [] h = absurd (omega arith)
number_long (a ∷ []) h = absurd (omega arith)
number_long (a ∷ b ∷ bs) h = long (eqb a 48) bs _ (omega arith)
  where
    long : (t : Bool) (bs : List ℕ) (x : Option ℕ) → 1 < length bs → None ≡ cond t None (cond (ltb 1 (length bs)) None x)
    long true bs x h = refl
    long false bs x h = rw (lt-ltb _ _ h)

pub number_zero : (s : List ℕ) → 1 < length s → get_or s 0 0 ≡ 48 → None ≡ number_of s
unfolding number_of
number_zero [] h e = absurd (omega arith)
number_zero (a ∷ []) h e = absurd (omega arith)
number_zero (a ∷ b ∷ bs) h e = rw (eq-eqb _ _ e)

-- One digit, and up to three that do not start with 0, are read digit by digit.
pub number_one : (s : List ℕ) → 0 < length s → length s ≤ 1 → digits_from 0 s ≡ number_of s
unfolding number_of
number_one [] h g = absurd (omega arith)
number_one (a ∷ []) h g = refl
number_one (a ∷ b ∷ bs) h g = absurd (omega arith)

pub number_more : (s : List ℕ) → 1 < length s → length s ≤ 3 → (get_or s 0 0 ≡ 48 → ⊥) → digits_from 0 s ≡ number_of s
unfolding number_of
number_more [] h g e = absurd (omega arith)
number_more (a ∷ []) h g e = absurd (omega arith)
number_more (a ∷ b ∷ bs) h g e = rw (ne_eqb _ _ e, le-ltb 1 (length bs) (omega arith))

module _ (v : ℕ) (s : List ℕ) (i : ℕ) (h : i < length s) where
  -- A byte that is no digit spoils the number, and a digit is read on.
  pub digit_bad : IsNotAsciiDigit (get_or s i 0) → None ≡ digits_from v (drop i s)
  unfolding digits_from
  digit_bad g = rw (drop-cons s i 0 h) (grind (arith, nat_tests))

  pub digit_on : 48 ≤ get_or s i 0 → get_or s i 0 ≤ 57 → digits_from v (drop i s) ≡ digits_from (v * 10 + (get_or s i 0 - 48)) (drop (i + 1) s)
  unfolding digits_from
  digit_on g k = rw (drop-cons s i 0 h, le-ltb (get_or s i 0) 48 g, le-ltb 57 (get_or s i 0) k, add-one)

-- After the last digit the value is the number.
pub digits_end : (v : ℕ) (s : List ℕ) (i : ℕ) → length s ≤ i → Some v ≡ digits_from v (drop i s)
unfolding digits_from
digits_end v s i h = rw (drop_of_length-le s h)

-- A value of i digits with one more digit has at most i + 1 digits.
pub grows : (i v w : ℕ) → i < 3 → v < 10 ^ i → w < 10 → v * 10 + w < 10 ^ (i + 1)
grows zero v w h g k = omega arith
grows (suc zero) v w h g k = omega arith
grows (suc (suc zero)) v w h g k = omega arith
grows (suc (suc (suc i))) v w h g k = absurd (omega arith)

-- ---- Two texts from the place i on

-- Texts of different length differ.
pub equal_short : (s t : List ℕ) → (length s ≡ length t → ⊥) → false ≡ equal s t
unfolding equal
equal_short [] [] h = absurd (h refl)
equal_short [] (b ∷ t) h = refl
equal_short (a ∷ s) [] h = refl
equal_short (a ∷ s) (b ∷ t) h = either (eqb a b) _ (equal_short s t (λ e. h (ap suc e)))
  where
    either : (t : Bool) (x : Bool) → false ≡ x → false ≡ cond t x false
    either true x e = e
    either false x e = refl

module _ (s t : List ℕ) (i : ℕ) (h : i < length s) (g : i < length t) where
  -- They differ if their bytes at i do; if not, the places after i decide.
  pub equal_not : (get_or s i 0 ≡ get_or t i 0 → ⊥) → false ≡ equal (drop i s) (drop i t)
  unfolding equal
  equal_not e = rw (drop-cons s i 0 h, drop-cons t i 0 g, ne_eqb _ _ e)

  pub equal_on : get_or s i 0 ≡ get_or t i 0 → equal (drop i s) (drop i t) ≡ equal (drop (i + 1) s) (drop (i + 1) t)
  unfolding equal
  equal_on e = rw (drop-cons s i 0 h, drop-cons t i 0 g, eq-eqb _ _ e, add-one)

-- So texts of one length differ from i on if not each of the n bytes from there is the same.
differ_from : (n i : ℕ) (s t : List ℕ) → i + n ≡ length s → length s ≡ length t → (((k : ℕ) → i ≤ k → k < length s → get_or s k 0 ≡ get_or t k 0) → ⊥) → false ≡ equal (drop i s) (drop i t)
differ_from zero i s t e g h = absurd (h (λ k a b. absurd (omega arith)))
differ_from (suc n) i s t e g h = go (ℕ_discrete (get_or s i 0) (get_or t i 0)) (λ f. differ_from n (i + 1) s t (omega arith) g f)
  where
    at : get_or s i 0 ≡ get_or t i 0 → ((j : ℕ) → i + 1 ≤ j → j < length s → get_or s j 0 ≡ get_or t j 0) → (k : ℕ) → Dec (k ≡ i) → i ≤ k → k < length s → get_or s k 0 ≡ get_or t k 0
    at q f k (yes z) a b = rw z q
    at q f k (no z) a b = f k (omega arith) b

    go : Dec (get_or s i 0 ≡ get_or t i 0) → ((((k : ℕ) → i + 1 ≤ k → k < length s → get_or s k 0 ≡ get_or t k 0) → ⊥) → false ≡ equal (drop (i + 1) s) (drop (i + 1) t)) → false ≡ equal (drop i s) (drop i t)
    go (no d) r = equal_not s t i (omega arith) (omega arith) d
    go (yes q) r = r (λ f. h (λ k a b. at q f k (ℕ_discrete k i) a b)) ∙ sym (equal_on s t i (omega arith) (omega arith) q)

-- Texts differ if they have different lengths or different bytes.
pub equal_apart : (s t : List ℕ) → (length s ≡ length t → ((k : ℕ) → k < length s → get_or s k 0 ≡ get_or t k 0) → ⊥) → false ≡ equal s t
equal_apart s t h = go (ℕ_discrete (length s) (length t))
  where
    go : Dec (length s ≡ length t) → false ≡ equal s t
    go (no d) = equal_short s t d
    go (yes e) = differ_from (length s) 0 s t (omega arith) e (λ f. h e (λ k. f k (omega arith)))

-- Texts that are found the same are the same.
pub equal_true : (s t : List ℕ) → equal s t ≡ true → s ≡ t
unfolding equal
equal_true s t e = (compares_Decides equal (search rules) s t).0 e
