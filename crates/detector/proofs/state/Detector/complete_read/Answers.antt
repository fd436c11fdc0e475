use Rattle.detector.specs.RwLock.{complete_read}
use Rattle.detector.proofs.Promises.{does_counts}
use Rattle.detector.proofs.state.Detector.complete_read.Goals as goal

pub returns : goal.returns
unfolding complete_read
returns c =
    let w = c.clear_wait_intent.ensures in
    rw (c.count_up.ensures, ← w.0) (does_counts c.args.self.now _ _ c.requires.0 w.1)
