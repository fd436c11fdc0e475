use Rattle.detector.proofs.Queues.{silent_does}
use Rattle.detector.specs.Condvar.{create_condvar}
use Rattle.detector.specs.State.{pairs_of}
use mathlib.Core.Path.{ap}
use Rattle.detector.proofs.state.Detector.create_condvar.Goals as goal

pub returns : goal.returns
unfolding create_condvar
returns c b =
    let d = c.args.self.now in
    silent_does d c.args.c _ _ _ _ _ c.requires.0 c.new.ensures.1 (ap pairs_of c.new.ensures.0) c.requires.0.cv_waits c.requires.0.waits b
