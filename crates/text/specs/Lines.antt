-- The lines of a text. A line ends with a line feed, which is no part of it, or with the text. After a line feed at the
-- end of the text there is no further line.
use Rattle.std.specs.Prelude.{ℕ, cond, List, [], ◌∷◌, eqb}
use Rattle.text.specs.Bytes.{line_feed}
use Rattle.text.specs.Fields.{on_first}

-- Returns the lines of a text. A byte that is no line feed is put at the front of the line that follows it, or is a
-- line of its own if none follows.
unfoldable pub lines_of : List ℕ → List (List ℕ)
lines_of [] = []
lines_of (b ∷ t) = cond (eqb b line_feed) ([] ∷ lines_of t) (on_first b (lines_of t))

-- The most bytes carried of a line: one more than a line may have, so that a full carry shows a line that is too long.
abbrev pub carry_bytes : ℕ
carry_bytes = 41
