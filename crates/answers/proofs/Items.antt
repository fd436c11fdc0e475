-- The printed lines consist of parts that are put one after the other, and the reports of a buffer are printed
-- one by one.
use mathlib.Core.Path.{◌≡◌, refl, ap, ◌∙◌}
use mathlib.Core.List.{List, [], ◌∷◌, ◌++◌, append_assoc, append-nil}
use Prim.Native.Nat.{ℕ, zero, suc, ◌+◌, ◌*◌, ◌-◌, ◌<◌, ◌≤◌}
use native.Mathlib.Omega.{arith}
use native.Mathlib.Nat.{add-zero}
use lib.ListN.{drop, get_or}
use lib.Seq.{get_or-drop, drop-drop}
use Rattle.text.specs.Bytes.{text}
use Rattle.text.specs.Decimal.{decimal, with_tab, tabbed, line}
use Rattle.waits.specs.Report.{Entry, entry_bytes}
use Rattle.answers.specs.Reports.{entry_in, entries_in, report_in, report_size, reports_in, reports_size}
use Rattle.answers.specs.Answers.{Printed, verdict, number, reply_text, item_text, items_text, cycle_text, cycles_text, answer_text, end_text}
use Rattle.std.specs.Prelude.{Ok, Err}

-- Returns the fields, each with a tab before it, and then a line feed.
abbrev ended : List (List ℕ) → List ℕ
ended [] = text "\n"
ended (f ∷ fs) = with_tab f ++ ended fs

tabbed_ended : (fs : List (List ℕ)) → tabbed fs ++ text "\n" ≡ ended fs
unfolding tabbed
tabbed_ended [] = refl
tabbed_ended (f ∷ fs) = append_assoc (with_tab f) (tabbed fs) (text "\n") ∙ ap (λ (x : List ℕ). with_tab f ++ x) (tabbed_ended fs)

line_ended : (f : List ℕ) (fs : List (List ℕ)) → line (f ∷ fs) ≡ f ++ ended fs
line_ended f fs = append_assoc f (tabbed fs) (text "\n") ∙ ap (λ (x : List ℕ). f ++ x) (tabbed_ended fs)

-- The reply line, the `end` line and a `cycle` line consist of the parts that the code puts.
pub reply_parts : (n : ℕ) (r : Printed) → reply_text n r ≡ decimal n ++ (with_tab (verdict r) ++ (with_tab (decimal (number r)) ++ text "\n"))
unfolding reply_text
reply_parts n r = line_ended (decimal n) (verdict r ∷ decimal (number r) ∷ [])

pub end_parts : (n e s : ℕ) → end_text n e s ≡ text "end" ++ (with_tab (decimal n) ++ (with_tab (decimal e) ++ (with_tab (decimal s) ++ text "\n")))
unfolding end_text
end_parts n e s = line_ended (text "end") (decimal n ∷ decimal e ∷ decimal s ∷ [])

pub cycle_parts : (es : List Entry) → cycle_text es ≡ text "cycle" ++ (items_text es ++ text "\n")
unfolding cycle_text
cycle_parts es = append_assoc (text "cycle") (items_text es) (text "\n")

-- ---- What stands at a place of the report buffer

suc_sub_one : (n : ℕ) → suc n - 1 ≡ n
suc_sub_one n = omega arith

pub item_parts : (b : List ℕ) (p t l : ℕ) → t ≡ get_or b p 0 → l ≡ get_or b (p + 1) 0 → with_tab (item_text (entry_in (drop p b))) ≡ with_tab (decimal t) ++ (text ":" ++ decimal l)
unfolding item_text
item_parts b p t l e f = simp (get_or-drop, add-zero, ← e, ← f) (ap (λ (x : List ℕ). with_tab x) (append_assoc (decimal t) (text ":") (decimal l)))

pub items_more : (n p : ℕ) (b : List ℕ) → 0 < n → items_text (entries_in n (drop p b)) ≡ with_tab (item_text (entry_in (drop p b))) ++ items_text (entries_in (n - 1) (drop (p + entry_bytes) b))
unfolding entries_in tabbed
items_more zero p b h = absurd (omega arith)
items_more (suc n) p b h = simp (drop-drop, suc_sub_one)

pub items_none : (n : ℕ) (b : List ℕ) → n ≤ 0 → items_text (entries_in n b) ≡ []
unfolding entries_in tabbed
items_none zero b h = refl
items_none (suc n) b h = absurd (omega arith)

pub report_at : (b : List ℕ) (p n : ℕ) → n ≡ get_or b p 0 → report_in (drop p b) ≡ entries_in n (drop (p + 1) b)
report_at b p n e = simp (get_or-drop, drop-drop, add-zero, ← e)

pub cycles_none : (n : ℕ) (b : List ℕ) → n ≤ 0 → cycles_text (reports_in n b) ≡ []
unfolding reports_in cycles_text
cycles_none zero b h = refl
cycles_none (suc n) b h = absurd (omega arith)

next_report : (b : List ℕ) (p m : ℕ) → m ≡ get_or b p 0 → p + report_size (drop p b) ≡ p + 1 + entry_bytes * m
next_report b p m e = simp (get_or-drop, add-zero, ← e) (omega arith)

pub cycles_more : (n p m : ℕ) (b : List ℕ) → 0 < n → m ≡ get_or b p 0 → cycles_text (reports_in n (drop p b)) ≡ cycle_text (report_in (drop p b)) ++ cycles_text (reports_in (n - 1) (drop (p + 1 + entry_bytes * m) b))
unfolding reports_in cycles_text
cycles_more zero p m b h e = absurd (omega arith)
cycles_more (suc n) p m b h e = rw (drop-drop (report_size (drop p b)) p b, next_report b p m e, suc_sub_one)

pub size_more : (n p : ℕ) (b : List ℕ) → 0 < n → reports_size n (drop p b) ≡ 1 + entry_bytes * get_or b p 0 + reports_size (n - 1) (drop (p + 1 + entry_bytes * get_or b p 0) b)
unfolding reports_size
size_more zero p b h = absurd (omega arith)
size_more (suc n) p b h =
    let s : report_size (drop p b) ≡ 1 + entry_bytes * get_or b p 0 = simp (get_or-drop, add-zero) in
    rw (drop-drop (report_size (drop p b)) p b, next_report b p (get_or b p 0) refl, suc_sub_one) (omega arith)

-- ---- A turn: of n entries or reports, i are done

next_left : (n i : ℕ) → n - i - 1 ≡ n - (i + 1)
next_left n i = omega arith

pub items_turn : (n i p : ℕ) (b : List ℕ) → i < n → items_text (entries_in (n - i) (drop (p + entry_bytes * i) b)) ≡ with_tab (item_text (entry_in (drop (p + entry_bytes * i) b))) ++ items_text (entries_in (n - (i + 1)) (drop (p + entry_bytes * (i + 1)) b))
items_turn n i p b h =
    let e : p + entry_bytes * i + entry_bytes ≡ p + entry_bytes * (i + 1) = omega arith in
    items_more (n - i) (p + entry_bytes * i) b (omega arith) ∙ rw (next_left n i, e)

pub cycles_turn : (n i p m : ℕ) (b : List ℕ) → i < n → m ≡ get_or b p 0 → cycles_text (reports_in (n - i) (drop p b)) ≡ cycle_text (report_in (drop p b)) ++ cycles_text (reports_in (n - (i + 1)) (drop (p + 1 + entry_bytes * m) b))
cycles_turn n i p m b h e = cycles_more (n - i) p m b (omega arith) e ∙ rw (next_left n i)

pub size_turn : (n i p : ℕ) (b : List ℕ) → i < n → reports_size (n - i) (drop p b) ≡ 1 + entry_bytes * get_or b p 0 + reports_size (n - (i + 1)) (drop (p + 1 + entry_bytes * get_or b p 0) b)
size_turn n i p b h = size_more (n - i) p b (omega arith) ∙ rw (next_left n i)

-- ---- The answer to a refused line, and to a served one

pub answer_no : (n k : ℕ) (r : Printed) (b : List ℕ) → r ≡ Err k → answer_text n r b ≡ reply_text n r
unfolding answer_text reports_in cycles_text
answer_no n k r b e = rw e (append-nil (reply_text n (Err k)))

pub answer_ok : (n m : ℕ) (r : Printed) (b : List ℕ) → r ≡ Ok m → answer_text n r b ≡ reply_text n r ++ cycles_text (reports_in m b)
unfolding answer_text
answer_ok n m r b e = rw e
