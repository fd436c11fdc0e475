-- Text as bytes: quoted text, the two separators, and whether two texts are the same.
use Rattle.std.specs.Prelude.{ℕ, Bool, true, false, cond, List, [], ◌∷◌, eqb}
use Prim.Native.Char.{code}
use Prim.Native.String.{String, [] as end, ◌∷◌ as ◌then◌}

-- Returns the bytes of a quoted text.
abbrev pub text : String → List ℕ
text end = []
text (c then s) = code c ∷ text s

-- Parts the fields of a line.
abbrev pub tab : ℕ
tab = code "\t"

-- Ends a line.
abbrev pub line_feed : ℕ
line_feed = code "\n"

-- Returns true if the two texts have the same length and the same bytes.
unfoldable pub equal : List ℕ → List ℕ → Bool
equal [] [] = true
equal [] (b ∷ t) = false
equal (a ∷ s) [] = false
equal (a ∷ s) (b ∷ t) = cond (eqb a b) (equal s t) false
