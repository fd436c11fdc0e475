use Rattle.detector.specs.State.{blank_queue}
use Rattle.detector.specs.Typed.{TypedQueue}
use Prim.Native.Nat.{ℕ, ◌<◌}
use lib.ListN.{get_or}
use Rattle.detector.proofs.types.queues.Given as goal

abbrev pub invariant-loop-q : goal.invariant-loop-q
invariant-loop-q l = (j : ℕ) → j < l.q-index → TypedQueue (get_or l.q-items j blank_queue)
