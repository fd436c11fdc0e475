-- How long the printed texts are.
use mathlib.Core.Path.{◌≡◌, refl, ap, ◌∙◌}
use mathlib.Core.List.{List}
use Prim.Native.Nat.{ℕ, zero, suc, ◌+◌, ◌*◌, ◌<◌, ◌≤◌, ◌^◌}
use native.Mathlib.Omega.{arith}
use lib.ListN.{length, drop, get_or, length-append}
use lib.Seq.{get_or-drop}
use Rattle.text.specs.Bytes.{text}
use Rattle.text.specs.Decimal.{decimal, with_tab, tabbed}
use Rattle.text.specs.Promises.{Room}
use Rattle.waits.specs.Report.{Entry, entry_bytes}
use Rattle.detector.specs.Refusals.{buffer_bytes}
use Rattle.detector.specs.Numbered.{reports_of}
use Rattle.answers.specs.Reports.{entry_in, entries_in, report_in, report_size, reports_in, reports_size}
use Rattle.answers.specs.Answers.{Printed, number, reply_text, item_text, items_text, cycle_text, cycles_text, answer_text, end_text, item_bytes, answer_bytes, end_bytes}
use Rattle.text.proofs.Digits.{decimal_short, decimal_bound}
use Rattle.answers.proofs.Items.{reply_parts, end_parts, cycle_parts, item_parts, report_at}
use Rattle.std.specs.Prelude.{Ok, Err}

-- ---- The length of each text

pub reply_length : (n : ℕ) (r : Printed) → length (reply_text n r) ≡ 5 + length (decimal n) + length (decimal (number r))
reply_length n (Ok k) = ap length (reply_parts n (Ok k)) ∙ simp length-append (omega (arith, length-append (decimal k) (text "\n")))
reply_length n (Err k) = ap length (reply_parts n (Err k)) ∙ simp length-append (omega (arith, length-append (decimal (number (Err k))) (text "\n")))

pub end_length : (n e s : ℕ) → length (end_text n e s) ≡ 7 + length (decimal n) + length (decimal e) + length (decimal s)
end_length n e s = ap length (end_parts n e s) ∙ simp length-append (omega arith)

pub item_length : (b : List ℕ) (p : ℕ) → length (with_tab (item_text (entry_in (drop p b)))) ≡ 2 + length (decimal (get_or b p 0)) + length (decimal (get_or b (p + 1) 0))
item_length b p = ap length (item_parts b p _ _ refl refl) ∙ simp length-append (omega arith)

cycle_length : (es : List Entry) → length (cycle_text es) ≡ 6 + length (items_text es)
cycle_length es = ap length (cycle_parts es) ∙ simp length-append (omega arith)

pub cycle_at_length : (b : List ℕ) (p : ℕ) → length (cycle_text (report_in (drop p b))) ≡ 6 + length (items_text (entries_in (get_or b p 0) (drop (p + 1) b)))
cycle_at_length b p = cycle_length (report_in (drop p b)) ∙ ap (λ (es : List Entry). 6 + length (items_text es)) (report_at b p _ refl)

-- ---- Bounds, for numbers of 64 bits and for bytes

pub reply_bound : (n : ℕ) (r : Printed) → n < 2 ^ 64 → number r < 2 ^ 64 → length (reply_text n r) ≤ 45
reply_bound n r h g = omega (arith, reply_length n r, decimal_bound n h, decimal_bound (number r) g)

pub end_bound : (n e s : ℕ) → n < 2 ^ 64 → e < 2 ^ 64 → s < 2 ^ 64 → length (end_text n e s) ≤ end_bytes
end_bound n e s h g k = omega (arith, end_length n e s, decimal_bound n h, decimal_bound e g, decimal_bound s k)

-- States that every number of b is a byte.
abbrev pub Bytes : List ℕ → Type 0
Bytes b = (i : ℕ) → get_or b i 0 < 256

bytes_drop : (b : List ℕ) (k : ℕ) → Bytes b → Bytes (drop k b)
bytes_drop b k h i = rw get_or-drop (h (k + i))

item_bound : (b : List ℕ) → Bytes b → length (with_tab (item_text (entry_in b))) ≤ item_bytes
item_bound b h = omega (arith, item_length b 0, decimal_short 2 (get_or b 0 0) (omega (arith, h 0)), decimal_short 2 (get_or b 1 0) (omega (arith, h 1)))

items_bound : (n : ℕ) (b : List ℕ) → Bytes b → length (items_text (entries_in n b)) ≤ item_bytes * n
unfolding entries_in tabbed
items_bound zero b h = omega arith
items_bound (suc n) b h =
    let r : length (items_text (entries_in n (drop entry_bytes b))) ≤ item_bytes * n = items_bound n (drop entry_bytes b) (bytes_drop b entry_bytes h) in
    omega (arith, item_bound b h, length-append (with_tab (item_text (entry_in b))) (items_text (entries_in n (drop entry_bytes b))))

-- Each byte of the reports gives at most four bytes of text, and each report two more.
pub cycles_bound : (r : ℕ) (b : List ℕ) → Bytes b → length (cycles_text (reports_in r b)) ≤ 4 * reports_size r b + 2 * r
unfolding reports_in reports_size cycles_text
cycles_bound zero b h = omega arith
cycles_bound (suc r) b h =
    let q : length (cycles_text (reports_in r (drop (report_size b) b))) ≤ 4 * reports_size r (drop (report_size b) b) + 2 * r = cycles_bound r (drop (report_size b) b) (bytes_drop b (report_size b) h) in
    omega (arith, cycle_length (report_in b), items_bound (get_or b 0 0) (drop 1 b) (bytes_drop b 1 h), length-append (cycle_text (report_in b)) (cycles_text (reports_in r (drop (report_size b) b))))

-- An answer has at most 32 reports, which take no more than the report buffer, so it has a longest length.
pub answer_bound : (n : ℕ) (r : Printed) (b : List ℕ) → n < 2 ^ 64 → number r < 2 ^ 64 → Bytes b → reports_of r ≤ 32 → reports_size (reports_of r) b ≤ buffer_bytes → length (answer_text n r b) ≤ answer_bytes
unfolding answer_text
answer_bound n r b h g k s t = omega (arith, reply_bound n r h g, cycles_bound (reports_of r) b k, length-append (reply_text n r) (cycles_text (reports_in (reports_of r) b)))

-- A buffer with room for the longest answer, or the longest `end` line, has room for each of them.
pub answer_room : (d : List ℕ) (at n : ℕ) (r : Printed) (b : List ℕ) → n < 2 ^ 64 → number r < 2 ^ 64 → Bytes b → reports_of r ≤ 32 → reports_size (reports_of r) b ≤ buffer_bytes → at + answer_bytes ≤ length d → Room d at (answer_text n r b)
answer_room d at n r b h g k s t w = record { fits = omega (arith, answer_bound n r b h g k s t) }

pub end_room : (d : List ℕ) (at n e s : ℕ) → n < 2 ^ 64 → e < 2 ^ 64 → s < 2 ^ 64 → at + end_bytes ≤ length d → Room d at (end_text n e s)
end_room d at n e s h g k w = record { fits = omega (arith, end_bound n e s h g k) }
