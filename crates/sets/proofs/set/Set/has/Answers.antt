use Rattle.sets.proofs.Digits.{bit_shift}
use Rattle.sets.proofs.set.Set.has.Goals as goal

pub returns : goal.returns
returns g c = rw (← c.wide.ensures.0, bit_shift)
