use Rattle.detector.proofs.Queues.{silent_does, cv_wait_set, cv_wait_some}
use Rattle.detector.proofs.Numbers.{queue_at_lem}
use Rattle.detector.specs.Condvar.{begin_wait}
use Rattle.detector.proofs.state.Detector.begin_wait.Goals as goal

pub returns : goal.returns
unfolding begin_wait
returns c b =
    let a = c.args in
    let d = a.self.now in
    let v = c.requires.0 in
    silent_does d a.c _ _ _ d.waits d.cv_woken v c.push.ensures.1 (rw (queue_at_lem d a.c) c.push.ensures.0) (cv_wait_set _ _ _ (cv_wait_some a.c a.l c.requires.2 c.requires.3) v.cv_waits) v.waits b
