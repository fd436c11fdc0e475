use Rattle.detector.specs.Mutex.{acquired, complete_acquire}
use Rattle.detector.proofs.state.Detector.complete_acquire.Goals as goal

pub returns : goal.returns
unfolding complete_acquire acquired
returns c = c.take.ensures
