use Rattle.detector.specs.State.{pairs_of, Queued}
use mathlib.Core.Path.{◌≡◌}
use lib.ListN.{take}
use Rattle.detector.proofs.state.Queue.pop.Given as goal

abbrev pub invariant-loop-pair : goal.invariant-loop-pair
invariant-loop-pair l = (pairs_of l.left ≡ take l.pair-index l.others) × Queued l.left
