-- Printed text: decimal numbers, and fields with tabs between them.
use Rattle.std.specs.Prelude.{ℕ, zero, suc, ◌+◌, ◌/◌, ◌%◌, cond, List, [], ◌∷◌, ◌++◌, ltb}
use Prim.Native.Char.{code}
use Rattle.text.specs.Bytes.{text}

-- Returns the byte that prints the digit d.
abbrev pub digit : ℕ → ℕ
digit d = code "0" + d

-- Returns the decimal digits of n, the highest first. The number f only bounds how many turns are taken: every f from n
-- on gives the same digits.
unfoldable pub decimal_in : ℕ → ℕ → List ℕ
decimal_in zero n = digit n ∷ []
decimal_in (suc f) n = let tens : List ℕ = decimal_in f (n / 10) in cond (ltb n 10) (digit n ∷ []) (tens ++ (digit (n % 10) ∷ []))

-- Returns the decimal digits of n, the highest first.
unfoldable pub decimal : ℕ → List ℕ
decimal n = decimal_in n n

-- Returns the field with a tab before it.
abbrev pub with_tab : List ℕ → List ℕ
with_tab f = code "\t" ∷ f

-- Returns the fields one after the other, each with a tab before it.
unfoldable pub tabbed : List (List ℕ) → List ℕ
tabbed [] = []
tabbed (f ∷ fs) = with_tab f ++ tabbed fs

-- Returns the fields with a tab between every two.
abbrev pub joined : List (List ℕ) → List ℕ
joined [] = []
joined (f ∷ fs) = f ++ tabbed fs

-- Returns the fields as a line: joined by tabs and ended by a line feed.
abbrev pub line : List (List ℕ) → List ℕ
line fs = joined fs ++ text "\n"
