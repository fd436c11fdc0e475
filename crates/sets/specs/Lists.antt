-- Definitions on lists of numbers.
use Rattle.std.specs.Prelude.{◌≡◌, ◌⊎◌, List, [], ◌∷◌, Bool, true, false, cond, ℕ, eqb}

-- States that x stands in the list.
abbrev pub In : ℕ → List ℕ → Type 0
In x [] = ⊥
In x (y ∷ l) = (x ≡ y) ⊎ In x l

-- Returns true if x stands in the list.
unfoldable pub among : ℕ → List ℕ → Bool
among x [] = false
among x (y ∷ l) = cond (eqb x y) true (among x l)

-- States that no number stands in the list twice.
abbrev pub Distinct : List ℕ → Type 0
Distinct [] = Unit
Distinct (x ∷ l) = (In x l → ⊥) × Distinct l
