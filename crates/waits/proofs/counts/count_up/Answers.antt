use Rattle.waits.specs.Counts.{count_up}
use Rattle.waits.proofs.counts.count_up.Goals as goal

pub returns : goal.returns
unfolding count_up
returns c = rw c.place.ensures.0
