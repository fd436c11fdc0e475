use Rattle.detector.specs.Stuck.{stuck_count}
use Rattle.detector.proofs.state.Detector.stuck_within.Goals as goal

pub returns : goal.returns
unfolding stuck_count
returns c = rw (← c.true_waits.ensures) c.count_stuck.ensures
