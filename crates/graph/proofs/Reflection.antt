-- The test over 32 rows and columns is true exactly when two tables of 32 sets mirror each other.
use mathlib.Core.Path.{◌≡◌, refl, sym, ap, ◌∙◌}
use mathlib.Core.Logic.{◌⊎◌, inl, inr, ⊎_elim}
use mathlib.Core.List.{List}
use mathlib.Core.Bool.{Bool, true, false, false≢true}
use Prim.Native.Nat.{ℕ, ◌<◌, ◌≤◌, ◌^◌}
use native.Mathlib.Omega.{arith}
use native.Mathlib.Decide.{dec_lt}
use lib.ListN.{length, get_or-eq_default}
use Rattle.sets.specs.Sets.{bit, has}
use Rattle.sets.proofs.Digits.{bit_cases, bit_below, bit_zero}
use Rattle.sets.proofs.Below.{every_at, every_of}
use Rattle.graph.specs.Search.{row}
use Rattle.graph.specs.Graph.{agree, mirror_at, mirror_test, Mirror}

-- Two digits are the same exactly when the tests on them agree.
same_digit : (m i n j : ℕ) → agree (has m i) (has n j) ≡ true → bit m i ≡ bit n j
same_digit m i n j e = go (bit_cases m i) (bit_cases n j)
  where
    go : (bit m i ≡ 0) ⊎ (bit m i ≡ 1) → (bit n j ≡ 0) ⊎ (bit n j ≡ 1) → bit m i ≡ bit n j
    go (inl p) (inl q) = p ∙ sym q
    go (inr p) (inr q) = p ∙ sym q
    go (inl p) (inr q) = absurd (false≢true (rw (p, q) at e))
    go (inr p) (inl q) = absurd (false≢true (rw (p, q) at e))

digit_same : (m i n j : ℕ) → bit m i ≡ bit n j → agree (has m i) (has n j) ≡ true
digit_same m i n j e = rw e (go (has n j))
  where
    go : (b : Bool) → agree b b ≡ true
    go true = refl
    go false = refl

module _ (e i : List ℕ) (long : length e ≡ 32) (long_in : length i ≡ 32)
    (narrow : (k : ℕ) → row e k < 2 ^ 32) (narrow_in : (k : ℕ) → row i k < 2 ^ 32) where
  -- Outside the 32 rows and columns there is no edge in either table.
  far : (t u : List ℕ) → length t ≡ 32 → ((k : ℕ) → row u k < 2 ^ 32) → (a b : ℕ) → 32 ≤ a → (bit (row t a) b ≡ 0) × (bit (row u b) a ≡ 0)
  far t u l n a b h = (
    ap (λ (m : ℕ). bit m b) (get_or-eq_default t 0 (omega (arith, l))) ∙ bit_zero b,
    ⊎_elim (λ z. z) (λ o. absurd (omega (arith, bit_below 32 (row u b) a (n b) o))) (bit_cases (row u b) a),
  )

  -- Tables that pass the test mirror each other, and tables that mirror each other pass it.
  pub mirror_tested : mirror_test e i ≡ true → Mirror e i
  unfolding mirror_test
  mirror_tested h a b = go (dec_lt a 32) (dec_lt b 32)
    where
      go : Dec (a < 32) → Dec (b < 32) → bit (row e a) b ≡ bit (row i b) a
      go (yes p) (yes q) = same_digit (row e a) b (row i b) a (every_at (mirror_at (row e a) i a) 32 (every_at _ 32 h a p) b q)
      go (no p) d = let f = far e i long narrow_in a b (omega arith) in f.0 ∙ sym f.1
      go (yes p) (no q) = let f = far i e long_in narrow b a (omega arith) in f.1 ∙ sym f.0

  pub test_mirrored : Mirror e i → mirror_test e i ≡ true
  unfolding mirror_test
  test_mirrored m = every_of _ 32 (λ a p. every_of (mirror_at (row e a) i a) 32 (λ b q. digit_same (row e a) b (row i b) a (m a b)))
