use mathlib.Core.Path.{◌≡◌}
use lib.ListN.{drop}
use Rattle.waits.specs.Code.{awaited_mask}
use Rattle.waits.proofs.tables.Waits.awaited.Given as goal

abbrev pub invariant-loop-t : goal.invariant-loop-t
invariant-loop-t l = awaited_mask l.self l.locks (drop l.t-index l.t-items) ≡ awaited_mask l.self 0 l.cycle
