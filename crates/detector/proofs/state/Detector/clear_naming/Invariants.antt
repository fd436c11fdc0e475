use mathlib.Core.Bool.{cond}
use mathlib.Core.Path.{◌≡◌}
use Rattle.sets.specs.Below.{each}
use Rattle.waits.specs.Tables.{intent_of, InRange}
use Rattle.waits.specs.Waiting.{clear}
use Rattle.waits.specs.Validate.{names}
use Rattle.detector.specs.Code.{put_waits}
use Rattle.detector.proofs.state.Detector.clear_naming.Given as goal

abbrev pub invariant-loop-t : goal.invariant-loop-t
invariant-loop-t l =
    let w = l.initial.self.waits in
    InRange l.self.waits × (l.self ≡ put_waits l.initial.self (each (λ v k. cond (names (intent_of w k) l.l) (clear v k) v) w l.t))
