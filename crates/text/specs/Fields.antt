-- A text is cut into parts at each separator d. The fields of a line are its parts between tabs.
use Rattle.std.specs.Prelude.{ℕ, cond, List, [], ◌∷◌, eqb, drop}
use Rattle.text.specs.Bytes.{tab}

-- Returns the bytes before the first d, or all of them if there is no d.
unfoldable pub up_to : ℕ → List ℕ → List ℕ
up_to d [] = []
up_to d (b ∷ bs) = cond (eqb b d) [] (b ∷ up_to d bs)

-- Returns the field that starts at the place a: the bytes up to the next tab, or to the end of the line.
unfoldable pub field_at : List ℕ → ℕ → List ℕ
field_at line a = up_to tab (drop a line)

-- Returns the parts with the byte b at the front of the first one, or b alone as a part if there are none.
abbrev pub on_first : ℕ → List (List ℕ) → List (List ℕ)
on_first b [] = (b ∷ []) ∷ []
on_first b (p ∷ ps) = (b ∷ p) ∷ ps

-- Returns the parts between the separators d, empty ones too. There is one part more than there are separators.
unfoldable pub parts : ℕ → List ℕ → List (List ℕ)
parts d [] = [] ∷ []
parts d (b ∷ bs) = cond (eqb b d) ([] ∷ parts d bs) (on_first b (parts d bs))

-- Returns the fields of a line.
unfoldable pub fields : List ℕ → List (List ℕ)
fields line = parts tab line
