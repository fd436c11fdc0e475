use Rattle.detector.proofs.Queues.{forget_below}
use mathlib.Core.Path.{◌≡◌}
use Rattle.detector.proofs.condvar.forget.Given as goal

abbrev pub invariant-loop-wait : goal.invariant-loop-wait
invariant-loop-wait l = l.cv_waits ≡ forget_below l.initial.cv_waits l.c l.wait-index
