-- A number in a script has one, two or three digits and does not start with 0, unless it is 0 itself.
use Rattle.std.specs.Prelude.{ℕ, ◌+◌, ◌*◌, ◌-◌, cond, List, [], ◌∷◌, eqb, ltb, length, Option, Some, None}
use Prim.Native.Char.{code}

-- Returns the number read when the value so far is v and these digits follow, or None if one of them is no digit.
unfoldable pub digits_from : ℕ → List ℕ → Option ℕ
digits_from v [] = Some v
digits_from v (b ∷ bs) = cond (ltb b (code "0")) None (cond (ltb (code "9") b) None (digits_from (v * 10 + (b - code "0")) bs))

-- Returns the number that the bytes spell: one digit, or two or three of which the first is not 0. Else returns None.
unfoldable pub number_of : List ℕ → Option ℕ
number_of [] = None
number_of (a ∷ []) = digits_from 0 (a ∷ [])
number_of (a ∷ b ∷ bs) = cond (eqb a (code "0")) None (cond (ltb 1 (length bs)) None (digits_from 0 (a ∷ b ∷ bs)))
