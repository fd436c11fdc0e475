use mathlib.Core.Path.{◌∙◌}
use Rattle.waits.proofs.Masks.{all_read_passes}
use Rattle.waits.proofs.tables.Waits.filter_cycle_by_common_locks.Goals as goal

pub returns : goal.returns
returns c = (rw c.common_holds.ensures at c.all_read.ensures) ∙ all_read_passes _ c.args.self.now _
