use mathlib.Core.Path.{◌≡◌}
use lib.ListN.{drop}
use Prim.Native.Nat.{◌<◌}
use Rattle.waits.specs.Validate.{around, valid}
use Rattle.waits.proofs.tables.Waits.validate_wait_cycle.Given as goal

abbrev pub invariant-loop-target : goal.invariant-loop-target
invariant-loop-target l =
    (l.source < 32) × (around l.counts l.self l.first l.source (drop l.target-index l.others) ≡ valid l.counts l.self l.cycle)
