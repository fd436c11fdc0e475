use Rattle.detector.proofs.StuckLaws.{rows_below}
use mathlib.Core.Path.{◌≡◌}
use Rattle.detector.proofs.state.Detector.true_waits.Given as goal

abbrev pub invariant-loop-t : goal.invariant-loop-t
invariant-loop-t l = l.rows ≡ rows_below l.self.rwlock_readers l.self.waits l.t
