-- What replay prints. For a line it is the line's number with `ok` and the number of reports, or with `no` and
-- the refusal, and then a `cycle` line for each report. After the last line it is `end` with the totals, in
-- which a refused line counts as read. Tabs part the fields.
use Rattle.std.specs.Prelude.{ℕ, ◌+◌, ◌*◌, List, [], ◌∷◌, ◌++◌, map, Result, Ok, Err}
use Rattle.sets.specs.Limits.{THREADS}
use Rattle.detector.specs.Limits.{PLACES}
use Rattle.text.specs.Bytes.{text}
use Rattle.text.specs.Decimal.{decimal, tabbed, line}
use Rattle.answers.specs.Reports.{reports_in}
use Rattle.waits.specs.Report.{Entry}
use Rattle.detector.specs.Numbered as refusals
use Rattle.detector.specs.Numbered.{Reply, reports_of}

-- What is printed of a reply: the number of reports, or the number of a refusal, whatever that is.
abbrev pub Printed : Type 0
Printed = Result ℕ ℕ

-- Returns what is printed of a reply.
abbrev pub printed : Reply → Printed
printed (Ok n) = Ok n
printed (Err r) = Err (refusals.number r)

-- Returns `ok` for a number of reports, and `no` for a refusal.
abbrev pub verdict : Printed → List ℕ
verdict (Ok n) = text "ok"
verdict (Err k) = text "no"

-- Returns the number that is printed: how many reports there are, or the refusal.
abbrev pub number : Printed → ℕ
number (Ok n) = n
number (Err k) = k

-- Returns the reply line of line n.
unfoldable pub reply_text : ℕ → Printed → List ℕ
reply_text n r = line (decimal n ∷ verdict r ∷ decimal (number r) ∷ [])

-- Returns the item of an entry, `thread:lock`.
unfoldable pub item_text : Entry → List ℕ
item_text e = decimal e.thread ++ text ":" ++ decimal e.lock

-- Returns the items of the entries, each with a tab before it.
abbrev pub items_text : List Entry → List ℕ
items_text es = tabbed (map item_text es)

-- Returns the `cycle` line of a report.
unfoldable pub cycle_text : List Entry → List ℕ
cycle_text es = line (text "cycle" ∷ map item_text es)

-- Returns the `cycle` lines of the reports, in order.
unfoldable pub cycles_text : List (List Entry) → List ℕ
cycles_text [] = []
cycles_text (es ∷ rs) = cycle_text es ++ cycles_text rs

-- Returns the answer to line n, where r is printed of its reply and its reports stand in the report buffer b.
unfoldable pub answer_text : ℕ → Printed → List ℕ → List ℕ
answer_text n r b = reply_text n r ++ cycles_text (reports_in (reports_of r) b)

-- Returns the `end` line with the three totals.
unfoldable pub end_text : ℕ → ℕ → ℕ → List ℕ
end_text lines edges stuck = line (text "end" ∷ decimal lines ∷ decimal edges ∷ decimal stuck ∷ [])

-- An item takes at most this many bytes with its tab: thread and lock are bytes, so each has at most three digits.
abbrev pub item_bytes : ℕ
item_bytes = 8

-- An answer takes at most this many bytes (8,429): a reply line of 45, and 32 `cycle` lines of 32 items each.
abbrev pub answer_bytes : ℕ
answer_bytes = 45 + PLACES * (6 + THREADS * item_bytes)

-- The `end` line takes at most this many bytes.
abbrev pub end_bytes : ℕ
end_bytes = 67
