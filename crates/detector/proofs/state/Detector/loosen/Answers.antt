use Rattle.detector.specs.RwLock.{loosen}
use Rattle.detector.proofs.state.Detector.loosen.Goals as goal

pub returns : goal.returns
unfolding loosen
returns c = rw c.remove_edges_to.ensures
