-- The code puts the beginning of a table's line when it puts the first item. The test `new` tells that nothing
-- of the line has been put yet.
use Rattle.std.specs.Prelude.{ℕ, Bool, true, false, List, [], ◌∷◌, ◌++◌}
use Rattle.text.specs.Bytes.{text}
use Rattle.text.specs.Decimal.{with_tab, tabbed}

-- Returns the beginning of the line, or nothing if it has been put.
unfoldable pub line_begun : Bool → List ℕ → List ℕ
line_begun true name = text "table" ++ with_tab name
line_begun false name = []

-- Returns what is put before an item.
abbrev pub opening : Bool → List ℕ → List ℕ
opening new name = line_begun new name ++ text "\t"

-- Returns what is put after the last item: a line feed, or nothing if there was no item.
abbrev pub ending : Bool → List ℕ
ending true = []
ending false = text "\n"

-- Returns what is put for these items, with the line's beginning before the first if it has not been put.
unfoldable pub more : Bool → List ℕ → List (List ℕ) → List ℕ
more new name [] = []
more new name (i ∷ is) = line_begun new name ++ tabbed (i ∷ is)

-- The lines of all tables take at most this many bytes.
abbrev pub tables_bytes : ℕ
tables_bytes = 120000
