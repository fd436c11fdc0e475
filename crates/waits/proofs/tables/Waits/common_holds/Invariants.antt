use mathlib.Core.Path.{◌≡◌}
use lib.ListN.{drop}
use Rattle.waits.specs.Code.{common_mask}
use Rattle.waits.proofs.tables.Waits.common_holds.Given as goal

abbrev pub invariant-loop-t : goal.invariant-loop-t
invariant-loop-t l = common_mask l.self.thread_holds l.intersection (drop l.t-index l.t-items) ≡ common_mask l.self.thread_holds 18446744073709551615 l.cycle
