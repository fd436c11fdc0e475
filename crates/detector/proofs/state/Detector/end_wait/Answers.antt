use Rattle.detector.proofs.Queues.{silent_does, cv_wait_set, cv_wait_none}
use Rattle.detector.proofs.Numbers.{queue_at_lem}
use Rattle.detector.specs.Condvar.{end_wait, leave}
use mathlib.Core.Path.{sym, ap, ◌∙◌}
use Rattle.detector.proofs.state.Detector.end_wait.Goals as goal

pub returns : goal.returns
unfolding end_wait
returns c b =
    let a = c.args in
    let d = a.self.now in
    let v = c.requires.0 in
    let w = c.clear_wait_intent.ensures in
    rw (← w.0, ← c.without-self.ensures)
    (silent_does d a.c _ _ _ c.clear_wait_intent.new.self c.without-self.result v c.leave.ensures.1 (c.leave.ensures.0 ∙ ap (leave a.t a.l) (sym (queue_at_lem d a.c))) (cv_wait_set _ _ _ cv_wait_none v.cv_waits) w.1 b)
