use Rattle.detector.specs.Tables.{blank_cv_wait}
use Rattle.detector.specs.Typed.{TypedCvWait}
use Prim.Native.Nat.{ℕ, ◌<◌}
use lib.ListN.{get_or}
use Rattle.detector.proofs.types.cv_waits.Given as goal

abbrev pub invariant-loop-v : goal.invariant-loop-v
invariant-loop-v l = (j : ℕ) → j < l.v-index → TypedCvWait (get_or l.v-items j blank_cv_wait)
