-- Lines that read and lines that do not.
use Rattle.std.specs.Prelude.{Some, None}
use mathlib.Core.Path.{◌≡◌, refl}
use Rattle.text.specs.Bytes.{text, equal}
use Rattle.text.specs.Fields.{parts, fields}
use Rattle.text.specs.Numbers.{digits_from, number_of}
use Rattle.script.specs.Outcomes.{outcome_of}
use Rattle.script.specs.Words.{shape_of}
use Rattle.script.specs.Lines.{after_two, after_one, after_word, line_of}
use Rattle.waits.specs.declared.outcome.Outcome.TheVariants as outcome
use Rattle.detector.specs.declared.event.Event.TheVariants as event

-- ---- Lines that read

took : line_of (text "ma\t1\t5\ttook") ≡ Some (event.MutexAttempt 1 5 outcome.Took)
unfolding line_of fields parts shape_of after_word after_one after_two number_of digits_from outcome_of equal
took = refl

blocked : line_of (text "wa\t4\t7\t-") ≡ Some (event.RwWriteAttempt 4 7 outcome.Blocked)
unfolding line_of fields parts shape_of after_word after_one after_two number_of digits_from outcome_of equal
blocked = refl

hinted : line_of (text "ma\t2\t5\t1") ≡ Some (event.MutexAttempt 2 5 (outcome.Hinted 1))
unfolding line_of fields parts shape_of after_word after_one after_two number_of digits_from outcome_of equal
hinted = refl

three_digits : line_of (text "mc\t999\t0") ≡ Some (event.MutexAcquired 999 0)
unfolding line_of fields parts shape_of after_word after_one after_two number_of digits_from outcome_of equal
three_digits = refl

condvar : line_of (text "cb\t2\t0\t5") ≡ Some (event.CondvarWaitBegin 2 0 5)
unfolding line_of fields parts shape_of after_word after_one after_two number_of digits_from outcome_of equal
condvar = refl

notify : line_of (text "c1\t0") ≡ Some (event.CondvarNotifyOne 0)
unfolding line_of fields parts shape_of after_word after_one after_two number_of digits_from outcome_of equal
notify = refl

-- ---- Lines that do not read

four_digits : line_of (text "mc\t1000\t0") ≡ None
unfolding line_of fields parts shape_of after_word after_one after_two number_of digits_from outcome_of equal
four_digits = refl

leading_zero : line_of (text "mc\t00\t0") ≡ None
unfolding line_of fields parts shape_of after_word after_one after_two number_of digits_from outcome_of equal
leading_zero = refl

hint_for_rt : line_of (text "rt\t32\t64\t5") ≡ None
unfolding line_of fields parts shape_of after_word after_one after_two number_of digits_from outcome_of equal
hint_for_rt = refl

empty : line_of (text "") ≡ None
unfolding line_of fields parts shape_of after_word after_one after_two number_of digits_from outcome_of equal
empty = refl

return : line_of (text "md\t5\r") ≡ None
unfolding line_of fields parts shape_of after_word after_one after_two number_of digits_from outcome_of equal
return = refl

upper_case : line_of (text "MD\t5") ≡ None
unfolding line_of fields parts shape_of after_word after_one after_two number_of digits_from outcome_of equal
upper_case = refl

extra_tab : line_of (text "md\t5\t") ≡ None
unfolding line_of fields parts shape_of after_word after_one after_two number_of digits_from outcome_of equal
extra_tab = refl

missing_field : line_of (text "mc\t5") ≡ None
unfolding line_of fields parts shape_of after_word after_one after_two number_of digits_from outcome_of equal
missing_field = refl
