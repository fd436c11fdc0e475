use mathlib.Core.Path.{◌∙◌}
use Rattle.waits.proofs.Masks.{common_step, common_end}
use Rattle.waits.proofs.tables.Waits.common_holds.Goals as goal

pub loop-t-preserved : goal.loop-t-preserved
loop-t-preserved c =
    let l = c.loop-t in
    rw c.from.ensures (common_step _ c.threads-t-items.result.now l.intersection l.t-index c.loop-t-test.true ∙ l.invariant)

pub returns : goal.returns
returns c =
    let l = c.loop-t in
    common_end c.args.self.now.thread_holds c.threads-t-items.result.now l.intersection l.t-index c.loop-t-test.false ∙ l.invariant
