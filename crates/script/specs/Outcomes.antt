-- The outcome of an attempt is the text `took`, a dash if it blocked, or a hint: the number of the thread that was
-- seen to own the lock.
use Rattle.std.specs.Prelude.{ℕ, cond, List, Option, Some, option_map}
use Rattle.text.specs.Bytes.{text, equal}
use Rattle.text.specs.Numbers.{number_of}
use Rattle.waits.specs.declared.outcome.Outcome.{Outcome}
use Rattle.waits.specs.declared.outcome.Outcome.TheVariants.{Took, Blocked, Hinted}

-- Returns the outcome that a field spells, or None if it spells none.
unfoldable pub outcome_of : List ℕ → Option Outcome
outcome_of s = cond (equal s (text "took")) (Some Took) (cond (equal s (text "-")) (Some Blocked) (option_map Hinted (number_of s)))
