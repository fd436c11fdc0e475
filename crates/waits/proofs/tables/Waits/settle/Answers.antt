use mathlib.Core.Path.{◌∙◌}
use Rattle.waits.proofs.Judging.{settles}
use Rattle.waits.proofs.tables.Waits.settle.Goals as goal

pub returns : goal.returns
returns c =
    let j = c.judge.ensures in
    (j.0 ∙ settles _ _ _ _ c.args.l c.refresh_waiters_for_lock-found.ensures.0, j.1)
