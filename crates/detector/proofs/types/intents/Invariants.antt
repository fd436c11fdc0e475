use Rattle.std.specs.Prelude.{None}
use Rattle.waits.specs.Tables.{lock_of}
use Prim.Native.Nat.{ℕ, ◌<◌}
use lib.ListN.{get_or}
use Rattle.detector.proofs.types.intents.Given as goal

abbrev pub invariant-loop-i : goal.invariant-loop-i
invariant-loop-i l = (j : ℕ) → j < l.i-index → lock_of (get_or l.i-items j None) < 256
