use Rattle.detector.specs.RwLock.{write_acquired, complete_write}
use Rattle.detector.proofs.state.Detector.complete_write.Goals as goal

pub returns : goal.returns
unfolding complete_write write_acquired
returns c = c.take.ensures
