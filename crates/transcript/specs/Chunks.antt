-- THE SAME IN CHUNKS: a text may come in chunks of any size. What is kept between two of them is the run and
-- the carry, whose bytes decide how the line reads.
use Rattle.std.specs.Prelude.{ℕ, ◌<◌, ◌≡◌, cond, List, [], ◌∷◌, ◌++◌, eqb, ltb, take}
use Rattle.text.specs.Bytes.{line_feed}
use Rattle.text.specs.Lines.{carry_bytes}
use Rattle.transcript.specs.Replay.{Run, limit, begin, after, line_text, text_of, replay_text}

-- Holds where a text stands between two of its bytes: the carry, and the run after the lines before it.
pub record Mid : Type 0 where
  pub part : List ℕ
  pub run : Run

-- Returns a carry and a run as one.
abbrev pub mid : List ℕ → Run → Mid
mid p r = record { part = p; run = r }

-- This is where a text stands before its first byte.
abbrev pub start : Mid
start = mid [] begin

-- Returns where the text stands after the byte b. A line feed ends the line, any other byte is carried as far
-- as there is room, and at the limit of lines nothing changes.
unfoldable pub step : Mid → ℕ → Mid
step m b =
    cond (ltb m.run.lines limit)
    (cond (eqb b line_feed) (mid [] (after m.run m.part)) (mid (take carry_bytes (m.part ++ (b ∷ []))) m.run))
    m

-- Returns what is printed for the byte b: the answer to the line that it ends, or nothing.
unfoldable pub prints_byte : Mid → ℕ → List ℕ
prints_byte m b = cond (ltb m.run.lines limit) (cond (eqb b line_feed) (line_text m.run m.part) []) []

-- Returns where the text stands after a chunk.
unfoldable pub fed : Mid → List ℕ → Mid
fed m [] = m
fed m (b ∷ t) = fed (step m b) t

-- Returns what is printed for a chunk.
unfoldable pub prints : Mid → List ℕ → List ℕ
prints m [] = []
prints m (b ∷ t) = prints_byte m b ++ prints (step m b) t

-- Returns the line that lacks its line feed, or no line if nothing is carried.
abbrev pub last_line : List ℕ → List (List ℕ)
last_line [] = []
last_line (b ∷ p) = (b ∷ p) ∷ []

-- Returns what is printed at the text's end: the answer to the line that lacks its line feed, if there is one,
-- and the totals.
unfoldable pub ends : Mid → List ℕ
ends m = text_of m.run (last_line m.part)

-- Returns where the text stands after the chunks ts.
unfoldable pub fed_all : Mid → List (List ℕ) → Mid
fed_all m [] = m
fed_all m (t ∷ ts) = fed_all (fed m t) ts

-- Returns what is printed for the chunks ts.
unfoldable pub prints_all : Mid → List (List ℕ) → List ℕ
prints_all m [] = []
prints_all m (t ∷ ts) = prints m t ++ prints_all (fed m t) ts

-- Returns the chunks joined to one text.
unfoldable pub together : List (List ℕ) → List ℕ
together [] = []
together (t ∷ ts) = t ++ together ts

-- THE TEXT THEOREM (`text_theorem`) states that what is printed for the chunks of a text and at its end is what
-- replay prints for the whole text, whatever the chunks are.
abbrev pub TextTheorem : Type 0
TextTheorem = (ts : List (List ℕ)) → prints_all start ts ++ ends (fed_all start ts) ≡ replay_text (together ts)

-- States that a last line that lacks its line feed is answered as if it had one (`open_line`).
abbrev pub OpenLine : Type 0
OpenLine = (m : Mid) → (m.part ≡ [] → ⊥) → m.run.lines < limit → prints m (line_feed ∷ []) ++ ends (fed m (line_feed ∷ [])) ≡ ends m
