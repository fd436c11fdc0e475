use Rattle.detector.specs.Tables.{no_pair}
use Prim.Native.Nat.{ℕ, ◌<◌}
use lib.ListN.{get_or}
use Rattle.detector.proofs.types.queue.Given as goal

abbrev pub invariant-loop-p : goal.invariant-loop-p
invariant-loop-p l = (j : ℕ) → j < l.p-index → ((get_or l.p-items j no_pair).thread < 256) × ((get_or l.p-items j no_pair).lock < 256)
