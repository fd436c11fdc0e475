-- Answers and `end` lines that are computed.
use mathlib.Core.Path.{◌≡◌, refl}
use mathlib.Core.List.{[], ◌∷◌}
use Rattle.text.specs.Bytes.{text}
use Rattle.text.specs.Decimal.{decimal, decimal_in, tabbed}
use Rattle.answers.specs.Reports.{entries_in, reports_in}
use Rattle.answers.specs.Answers.{printed, reply_text, item_text, cycle_text, cycles_text, answer_text, end_text}
use Rattle.std.specs.Prelude.{Ok, Err}
use Rattle.detector.specs.declared.refused.Refusal.TheVariants.{Thread}

-- The last line of session 1 closes a cycle of two threads.
p1 : answer_text 4 (Ok 1) (2 ∷ 1 ∷ 6 ∷ 2 ∷ 5 ∷ 0 ∷ []) ≡ text "4\tok\t1\ncycle\t1:6\t2:5\n"
unfolding answer_text reply_text cycles_text cycle_text item_text reports_in entries_in tabbed decimal decimal_in
p1 = refl

-- Of these two reports the second has no entry.
two_reports : answer_text 1000000 (Ok 2) (1 ∷ 31 ∷ 63 ∷ 0 ∷ []) ≡ text "1000000\tok\t2\ncycle\t31:63\ncycle\n"
unfolding answer_text reply_text cycles_text cycle_text item_text reports_in entries_in tabbed decimal decimal_in
two_reports = refl

-- For a refused line nothing of the report buffer is printed.
refused : answer_text 12 (printed (Err Thread)) (2 ∷ 1 ∷ 6 ∷ []) ≡ text "12\tno\t3\n"
unfolding answer_text reply_text cycles_text reports_in tabbed decimal decimal_in
refused = refl

-- Any number is printed as it is.
other : answer_text 7 (Err 99) [] ≡ text "7\tno\t99\n"
unfolding answer_text reply_text cycles_text reports_in tabbed decimal decimal_in
other = refl

-- Session 1 ends with this line, and an empty script with the one below.
p1_end : end_text 4 1 2 ≡ text "end\t4\t1\t2\n"
unfolding end_text tabbed decimal decimal_in
p1_end = refl

empty : end_text 0 0 0 ≡ text "end\t0\t0\t0\n"
unfolding end_text tabbed decimal decimal_in
empty = refl
