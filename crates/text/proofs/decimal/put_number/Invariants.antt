use Rattle.text.proofs.Digits.{Rest}
use Rattle.text.proofs.decimal.put_number.Given as goal

-- The digits of rest are still to be put, and those after them stand in the buffer.
abbrev pub invariant-loop-i : goal.invariant-loop-i
invariant-loop-i l = Rest l.n l.at l.i l.rest l.initial.out l.out
