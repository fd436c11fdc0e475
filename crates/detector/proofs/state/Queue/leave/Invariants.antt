use Rattle.detector.specs.State.{pairs_of, Queued}
use Rattle.detector.specs.Condvar.{leave}
use mathlib.Core.Path.{◌≡◌}
use Prim.Native.Nat.{◌≤◌}
use lib.ListN.{take}
use Rattle.detector.proofs.state.Queue.leave.Given as goal

abbrev pub invariant-loop-pair : goal.invariant-loop-pair
invariant-loop-pair l = (pairs_of l.left ≡ leave l.t l.l (take l.pair-index l.pair-items)) × Queued l.left × (l.left.len ≤ l.pair-index)
