-- Sets of small numbers as masks: a number is in a set when its digit is 1. Halving a mask takes its lowest digit off.
use Rattle.std.specs.Prelude.{List, [], ◌∷◌, Bool, ℕ, zero, suc, ◌+◌, ◌*◌, ◌/◌, ◌%◌, eqb}
use Rattle.std.specs.Int.Count.{count_trailing_zeros}

-- Returns digit i of m, which is 0 or 1. The lowest digit is digit 0.
unfoldable pub bit : ℕ → ℕ → ℕ
bit m zero = m % 2
bit m (suc i) = bit (m / 2) i

-- Returns true if i is in the set m.
abbrev pub has : ℕ → ℕ → Bool
has m i = eqb (bit m i) 1

-- Returns the set m with i added.
unfoldable pub with : ℕ → ℕ → ℕ
with m zero = m / 2 * 2 + 1
with m (suc i) = with (m / 2) i * 2 + m % 2

-- Returns the set m with i taken out.
unfoldable pub without : ℕ → ℕ → ℕ
without m zero = m / 2 * 2
without m (suc i) = without (m / 2) i * 2 + m % 2

-- Returns the list l with i in front of it, or l alone if the digit d is 0.
abbrev pub cons_if : ℕ → ℕ → List ℕ → List ℕ
cons_if zero i l = l
cons_if (suc d) i l = i ∷ l

-- Returns the numbers whose digits are 1 among the k lowest digits of m, upward, where the lowest digit has number i.
unfoldable pub upward_from : ℕ → ℕ → ℕ → List ℕ
upward_from zero i m = []
upward_from (suc k) i m = cons_if (m % 2) i (upward_from k (suc i) (m / 2))

-- Returns the numbers below k that are in the set m, upward.
abbrev pub upward : ℕ → ℕ → List ℕ
upward k m = upward_from k 0 m

-- Returns the lowest number in the set m, or k if none below k is in it.
abbrev pub lowest : ℕ → ℕ → ℕ
lowest k m = count_trailing_zeros k m
