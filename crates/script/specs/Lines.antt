-- A line of a script has at most 40 bytes, its line feed not counted: a word and the fields after it.
use Rattle.std.specs.Prelude.{ℕ, cond, List, [], ◌∷◌, leb, length, Option, Some, None, option_and_then}
use Rattle.text.specs.Fields.{fields}
use Rattle.text.specs.Numbers.{number_of}
use Rattle.script.specs.Outcomes.{outcome_of}
use Rattle.script.specs.Words.{Shape, shape_of}
use Rattle.detector.specs.declared.event.Event.{Event}

-- Returns what a word of shape s and the numbers a and b make with the fields that are left.
unfoldable pub after_two : Shape → List (List ℕ) → ℕ → ℕ → Option Event
after_two s [] a b = s.two a b
after_two s (f ∷ []) a b = option_and_then (s.three a b) (outcome_of f)
after_two s (f ∷ g ∷ fs) a b = None

-- Returns what a word of shape s and the number a make with the fields that are left.
unfoldable pub after_one : Shape → List (List ℕ) → ℕ → Option Event
after_one s [] a = s.one a
after_one s (f ∷ fs) a = option_and_then (after_two s fs a) (number_of f)

-- Returns what a word of shape s makes with the fields after it.
unfoldable pub after_word : Shape → List (List ℕ) → Option Event
after_word s [] = None
after_word s (f ∷ fs) = option_and_then (after_one s fs) (number_of f)

-- Returns what the fields of a line make, the first of which is its word.
abbrev pub line_from : List (List ℕ) → Option Event
line_from [] = None
line_from (w ∷ fs) = after_word (shape_of w) fs

-- Returns what the line l, given without its line feed, reads as.
unfoldable pub line_of : List ℕ → Option Event
line_of l = cond (leb (length l) 40) (line_from (fields l)) None

-- Returns refusal 1 for a line that does not read, and 0, which is no refusal, for one that does.
abbrev pub line_refusal : Option Event → ℕ
line_refusal (Some e) = 0
line_refusal None = 1
