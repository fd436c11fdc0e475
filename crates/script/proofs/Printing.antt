-- An event's line consists of parts that are put one after the other, and has a longest length.
use mathlib.Core.Path.{◌≡◌, sym, ap, ◌∙◌}
use mathlib.Core.List.{List, [], ◌∷◌, ◌++◌, append_assoc, append-nil}
use Prim.Native.Nat.{ℕ, suc, ◌+◌, ◌<◌, ◌≤◌, ◌^◌}
use native.Mathlib.Omega.{arith}
use lib.ListN.{length, length-append}
use Rattle.text.specs.Decimal.{decimal, with_tab, tabbed, joined}
use Rattle.text.specs.Promises.{Room}
use Rattle.text.proofs.Digits.{decimal_bound}
use Rattle.script.specs.Printed.{Parts, one, two, three, parts_of, outcome_text, parts_text, event_text, hints_of, parts_numbers, AllBelow, EventBelow, event_bytes}
use Rattle.waits.specs.declared.outcome.Outcome.{Outcome}
use Rattle.waits.specs.declared.outcome.Outcome.TheVariants as came
use Rattle.detector.specs.declared.event.Event.{Event}
use Rattle.script.proofs.Table.{spelling}

-- ---- One field more

tabbed_more : (fs : List (List ℕ)) (g : List ℕ) → tabbed (fs ++ g ∷ []) ≡ tabbed fs ++ with_tab g
unfolding tabbed
tabbed_more [] g = append-nil (with_tab g)
tabbed_more (f ∷ fs) g = ap (λ (x : List ℕ). with_tab f ++ x) (tabbed_more fs g) ∙ sym (append_assoc (with_tab f) (tabbed fs) (with_tab g))

pub joined_one : (f g : List ℕ) → joined (f ∷ g ∷ []) ≡ f ++ with_tab g
unfolding tabbed
joined_one f g = ap (λ (x : List ℕ). f ++ x) (append-nil (with_tab g))

pub joined_more : (f : List ℕ) (fs : List (List ℕ)) (g : List ℕ) → joined (f ∷ (fs ++ g ∷ [])) ≡ joined (f ∷ fs) ++ with_tab g
joined_more f fs g = ap (λ (x : List ℕ). f ++ x) (tabbed_more fs g) ∙ sym (append_assoc f (tabbed fs) (with_tab g))

-- ---- The length, for any numbers of 64 bits

wide : (n : ℕ) → n < 2 ^ 64 → length (with_tab (decimal n)) ≤ 21
wide n h = omega (arith, decimal_bound n h)

wide_outcome : (o : Outcome) → AllBelow (2 ^ 64) (hints_of o) → length (with_tab (outcome_text o)) ≤ 21
wide_outcome came.Took h = omega arith
wide_outcome came.Blocked h = omega arith
wide_outcome (came.Hinted n) h = wide n (h 0)

parts_bound : (p : Parts) → AllBelow (2 ^ 64) (parts_numbers p) → length (parts_text p) ≤ event_bytes
unfolding parts_text tabbed
parts_bound (one w a) h = simp (length-append, (spelling w).two) (omega (arith, wide a (h 0)))
parts_bound (two w a b) h = simp (length-append, (spelling w).two) (omega (arith, wide a (h 0), wide b (h 1)))
parts_bound (three w a b o) h = simp (length-append, (spelling w).two) (omega (arith, wide a (h 0), wide b (h 1), wide_outcome o (λ i. h (suc (suc i)))))

pub event_bound : (e : Event) → EventBelow (2 ^ 64) e → length (event_text e) ≤ event_bytes
unfolding event_text
event_bound e h = parts_bound (parts_of e) h

pub event_room : (d : List ℕ) (at : ℕ) (e : Event) → EventBelow (2 ^ 64) e → at + event_bytes ≤ length d → Room d at (event_text e)
event_room d at e h w = record { fits = omega (arith, event_bound e h) }
