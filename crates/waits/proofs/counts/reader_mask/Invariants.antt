use Rattle.waits.proofs.Masks.{Masked}
use Rattle.waits.proofs.counts.reader_mask.Given as goal

abbrev pub invariant-loop-t : goal.invariant-loop-t
invariant-loop-t l = Masked l.counts l.lock l.t l.readers
