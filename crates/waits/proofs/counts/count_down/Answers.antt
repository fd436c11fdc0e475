use Rattle.waits.specs.Counts.{count_down}
use Rattle.waits.proofs.counts.count_down.Goals as goal

pub returns : goal.returns
unfolding count_down
returns c = rw (c.saturating_sub.ensures, c.place-at.ensures.0)
