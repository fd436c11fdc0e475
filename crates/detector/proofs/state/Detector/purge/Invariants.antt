use mathlib.Core.Path.{◌≡◌}
use Rattle.sets.specs.Below.{each}
use Rattle.waits.specs.Tables.{unhold}
use Rattle.detector.specs.Code.{put_waits}
use Rattle.detector.proofs.state.Detector.purge.Given as goal

abbrev pub invariant-loop-t : goal.invariant-loop-t
invariant-loop-t l = l.self ≡ put_waits l.initial.self (each (λ v k. unhold v k l.l) l.initial.self.waits l.t)
