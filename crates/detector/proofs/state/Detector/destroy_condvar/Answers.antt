use Rattle.detector.proofs.Queues.{silent_does, cv_wait_forget}
use Rattle.detector.specs.Condvar.{destroy_condvar}
use Rattle.detector.specs.State.{pairs_of}
use mathlib.Core.Path.{ap}
use Rattle.detector.proofs.state.Detector.destroy_condvar.Goals as goal

pub returns : goal.returns
unfolding destroy_condvar
returns c b =
    let d = c.args.self.now in
    let v = c.requires.0 in
    rw c.forget.ensures
    (silent_does d c.args.c _ _ _ d.waits d.cv_woken v c.new.ensures.1 (ap pairs_of c.new.ensures.0) (cv_wait_forget d.condvars.thread_wait_cv c.args.c v.cv_waits) v.waits b)
