-- WHAT TABLES PRINTS for a script: what replay prints, and after each answer, that to a refused line too, a
-- line for each table that is not empty.
use Rattle.std.specs.Prelude.{ℕ, ◌<◌, ◌≡◌, cond, List, [], ◌∷◌, ◌++◌, eqb, ltb}
use Rattle.listing.specs.Listing.{tables_text}
use Rattle.text.specs.Bytes.{line_feed}
use Rattle.text.specs.Lines.{lines_of}
use Rattle.transcript.specs.Replay.{Run, limit, begin, after, line_text, last_text}
use Rattle.transcript.specs.Chunks.{Mid, start, step, fed, last_line, fed_all, together}

-- Returns the answer to the line l, which is the next one of the run r, and the tables after it.
unfoldable pub line_shown : Run → List ℕ → List ℕ
line_shown r l = line_text r l ++ tables_text (after r l).tables

-- Returns what is printed for the lines from the run r on, and at their end.
unfoldable pub shown_of : Run → List (List ℕ) → List ℕ
shown_of r [] = last_text r
shown_of r (l ∷ ls) = cond (ltb r.lines limit) (line_shown r l ++ shown_of (after r l) ls) (last_text r)

-- Returns what is printed for the script t.
unfoldable pub shown_text : List ℕ → List ℕ
shown_text t = shown_of begin (lines_of t)

-- ---- The same in chunks

-- Returns what is printed for the byte b: answer and tables of the line that it ends, or nothing.
unfoldable pub shows_byte : Mid → ℕ → List ℕ
shows_byte m b = cond (ltb m.run.lines limit) (cond (eqb b line_feed) (line_shown m.run m.part) []) []

-- Returns what is printed for a chunk.
unfoldable pub shows : Mid → List ℕ → List ℕ
shows m [] = []
shows m (b ∷ t) = shows_byte m b ++ shows (step m b) t

-- Returns what is printed at the text's end.
unfoldable pub closes : Mid → List ℕ
closes m = shown_of m.run (last_line m.part)

-- Returns what is printed for the chunks ts.
unfoldable pub shows_all : Mid → List (List ℕ) → List ℕ
shows_all m [] = []
shows_all m (t ∷ ts) = shows m t ++ shows_all (fed m t) ts

-- THE TEXT THEOREM of tables (`shown_theorem`) states that what is printed for the chunks of a text and at its
-- end is what tables prints for the whole text, whatever the chunks are.
abbrev pub ShownTheorem : Type 0
ShownTheorem = (ts : List (List ℕ)) → shows_all start ts ++ closes (fed_all start ts) ≡ shown_text (together ts)

-- States that a last line that lacks its line feed is shown as if it had one (`open_shown`).
abbrev pub OpenShown : Type 0
OpenShown = (m : Mid) → (m.part ≡ [] → ⊥) → m.run.lines < limit → shows m (line_feed ∷ []) ++ closes (fed m (line_feed ∷ [])) ≡ closes m
