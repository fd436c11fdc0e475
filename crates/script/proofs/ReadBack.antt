-- A printed event whose numbers have at most three digits reads back as itself.
use mathlib.Core.Path.{◌≡◌, refl, sym, ap, ◌∙◌}
use mathlib.Core.Bool.{Bool, true, false, cond, true≢false}
use mathlib.Core.Logic.{⊎_elim}
use Rattle.std.specs.Prelude.{Option, Some, None}
use mathlib.Core.List.{List, [], ◌∷◌}
use Prim.Native.Nat.{ℕ, zero, suc, ◌<◌, ◌≤◌}
use native.Mathlib.Omega.{arith}
use native.Mathlib.Nat.{eq-or-lt_of_le}
use borrow.Author.Tests.{eqb-true, le-leb}
use lib.Dec.{eqb}
use lib.ListN.{length, length-append}
use Rattle.text.specs.Decimal.{decimal_in, decimal, tabbed, joined}
use Rattle.text.proofs.Digits.{decimal_short}
use Rattle.text.specs.Numbers.{digits_from, number_of}
use Rattle.text.specs.Bytes.{equal}
use Rattle.script.specs.Outcomes.{outcome_of}
use Rattle.script.specs.Words.{Word, spelled, shape}
use Rattle.script.specs.Lines.{after_two, after_one, after_word, line_of}
use Rattle.script.specs.Printed.{Parts, one, two, three, parts_of, outcome_text, parts_text, event_text, hints_of, parts_numbers, AllBelow, EventBelow}
use Rattle.sets.proofs.Lists.{both}
use Rattle.waits.specs.declared.outcome.Outcome.{Outcome}
use Rattle.waits.specs.declared.outcome.Outcome.TheVariants as came
use Rattle.waits.specs.declared.outcome.Tried.TheVariants as tried
use Rattle.detector.specs.declared.event.Event.{Event}
use Rattle.detector.specs.declared.event.Event.TheVariants as event
use Rattle.text.proofs.Cut.{tabless, all_tabless, cut_joined}
use Rattle.script.proofs.Table.{spelling}

-- ---- The numbers below 1,000: a test that is computed for each of them, and the law that it gives

-- Returns true if a number was read and it is n.
abbrev is_number : ℕ → Option ℕ → Bool
is_number n (Some m) = eqb m n
is_number n None = false

-- Returns true if a hint was read and it is n.
abbrev is_hint : ℕ → Option Outcome → Bool
is_hint n (Some came.Took) = false
is_hint n (Some came.Blocked) = false
is_hint n (Some (came.Hinted m)) = eqb m n
is_hint n None = false

-- Returns true if n, printed, reads back as a number and as a hint, and holds no tab.
abbrev good : ℕ → Bool
good n = cond (is_number n (number_of (decimal n))) (cond (is_hint n (outcome_of (decimal n))) (tabless (decimal n)) false) false

-- Returns true if all numbers below k pass this test.
abbrev good_below : ℕ → Bool
good_below zero = true
good_below (suc k) = cond (good k) (good_below k) false

computed : good_below 1000 ≡ true
unfolding number_of digits_from outcome_of equal decimal decimal_in
computed = refl

good_at : (k n : ℕ) → good_below k ≡ true → n < k → good n ≡ true
good_at zero n h g = absurd (omega arith)
good_at (suc k) n h g =
    let b : (good k ≡ true) × (good_below k ≡ true) = both (good k) (good_below k) h in
    let w : n ≤ k = omega arith in
    ⊎_elim (λ e. rw e b.0) (λ l. good_at k n b.1 l) (eq-or-lt_of_le w)

is_number_lem : (n : ℕ) (x : Option ℕ) → is_number n x ≡ true → x ≡ Some n
is_number_lem n (Some m) h = ap Some (eqb-true m n h)
is_number_lem n None h = absurd (true≢false (sym h))

is_hint_lem : (n : ℕ) (x : Option Outcome) → is_hint n x ≡ true → x ≡ Some (came.Hinted n)
is_hint_lem n (Some came.Took) h = absurd (true≢false (sym h))
is_hint_lem n (Some came.Blocked) h = absurd (true≢false (sym h))
is_hint_lem n (Some (came.Hinted m)) h = ap (λ (k : ℕ). Some (came.Hinted k)) (eqb-true m n h)
is_hint_lem n None h = absurd (true≢false (sym h))

module _ (n : ℕ) (h : n < 1000) where
  tests : (is_number n (number_of (decimal n)) ≡ true) × (cond (is_hint n (outcome_of (decimal n))) (tabless (decimal n)) false ≡ true)
  tests = both (is_number n (number_of (decimal n))) _ (good_at 1000 n computed (omega arith))

  pub number_back : number_of (decimal n) ≡ Some n
  number_back = is_number_lem n (number_of (decimal n)) tests.0

  hint_back : outcome_of (decimal n) ≡ Some (came.Hinted n)
  hint_back = is_hint_lem n (outcome_of (decimal n)) (both (is_hint n (outcome_of (decimal n))) (tabless (decimal n)) tests.1).0

  number_tabless : tabless (decimal n) ≡ true
  number_tabless = (both (is_hint n (outcome_of (decimal n))) (tabless (decimal n)) tests.1).1

  number_short : length (decimal n) ≤ 3
  number_short = decimal_short 2 n (omega arith)

pub outcome_back : (o : Outcome) → AllBelow 1000 (hints_of o) → outcome_of (outcome_text o) ≡ Some o
unfolding outcome_of equal
outcome_back came.Took h = refl
outcome_back came.Blocked h = refl
outcome_back (came.Hinted n) h = hint_back n (h 0)

outcome_tabless : (o : Outcome) → AllBelow 1000 (hints_of o) → tabless (outcome_text o) ≡ true
outcome_tabless came.Took h = refl
outcome_tabless came.Blocked h = refl
outcome_tabless (came.Hinted n) h = number_tabless n (h 0)

outcome_short : (o : Outcome) → AllBelow 1000 (hints_of o) → length (outcome_text o) ≤ 4
outcome_short came.Took h = omega arith
outcome_short came.Blocked h = omega arith
outcome_short (came.Hinted n) h = omega (arith, number_short n (h 0))

-- ---- The words

-- Returns what a word makes of the fields after it.
abbrev made : Parts → Option Event
made (one w a) = (shape w).one a
made (two w a b) = (shape w).two a b
made (three w a b o) = (shape w).three a b o

made_event : (e : Event) → made (parts_of e) ≡ Some e
made_event (event.MutexAttempt t l o) = refl
made_event (event.MutexAcquired t l) = refl
made_event (event.MutexReleased t l) = refl
made_event (event.MutexExit l) = refl
made_event (event.RwReadAttempt t l o) = refl
made_event (event.RwReadAcquired t l) = refl
made_event (event.RwReadTry t l tried.Taken) = refl
made_event (event.RwReadTry t l tried.Missed) = refl
made_event (event.RwReadReleased t l) = refl
made_event (event.RwWriteAttempt t l o) = refl
made_event (event.RwWriteAcquired t l) = refl
made_event (event.RwWriteReleased t l) = refl
made_event (event.RwExit l) = refl
made_event (event.CondvarSpawn c) = refl
made_event (event.CondvarExit c) = refl
made_event (event.CondvarWaitBegin t c l) = refl
made_event (event.CondvarNotifyOne c) = refl
made_event (event.CondvarNotifyAll c) = refl
made_event (event.CondvarWaitEnd t c l) = refl

-- A line of at most 40 bytes whose fields hold no tab reads by its fields.
joined_read : (w : Word) (fs : List (List ℕ)) → all_tabless fs → length (joined (spelled w ∷ fs)) ≤ 40 → line_of (joined (spelled w ∷ fs)) ≡ after_word (shape w) fs
unfolding line_of
joined_read w fs g h = rw (le-leb (length (joined (spelled w ∷ fs))) 40 h, cut_joined (spelled w) fs (spelling w).no_tab g, (spelling w).found)

parts_back : (p : Parts) → AllBelow 1000 (parts_numbers p) → line_of (parts_text p) ≡ made p
unfolding parts_text tabbed after_word after_one after_two
parts_back (one w a) h =
    joined_read w (decimal a ∷ []) (number_tabless a (h 0), omega arith) (simp (length-append, (spelling w).two) (omega (arith, number_short a (h 0))))
    ∙ rw (number_back a (h 0))
parts_back (two w a b) h =
    joined_read w (decimal a ∷ decimal b ∷ []) (number_tabless a (h 0), (number_tabless b (h 1), omega arith)) (simp (length-append, (spelling w).two) (omega (arith, number_short a (h 0), number_short b (h 1))))
    ∙ rw (number_back a (h 0), number_back b (h 1))
parts_back (three w a b o) h =
    joined_read w (decimal a ∷ decimal b ∷ outcome_text o ∷ []) (number_tabless a (h 0), (number_tabless b (h 1), (outcome_tabless o (λ i. h (suc (suc i))), omega arith))) (simp (length-append, (spelling w).two) (omega (arith, number_short a (h 0), number_short b (h 1), outcome_short o (λ i. h (suc (suc i))))))
    ∙ rw (number_back a (h 0), number_back b (h 1), outcome_back o (λ i. h (suc (suc i))))

-- For every word at once: an event with numbers of at most 999, printed, reads back as itself.
pub reads_back : (e : Event) → EventBelow 1000 e → line_of (event_text e) ≡ Some e
unfolding event_text
reads_back e h = parts_back (parts_of e) h ∙ made_event e
