use Rattle.detector.proofs.Queues.{nobody_does, first_does, none_first, some_first}
use Rattle.detector.proofs.Numbers.{queue_at_lem}
use Rattle.detector.specs.Code.{tail_of}
use mathlib.Core.Path.{sym, ap, ◌∙◌}
use Rattle.detector.proofs.state.Detector.notify_one.Goals as goal

pub returns-in_default : goal.returns-in_default
returns-in_default c =
    let a = c.args in
    let d = a.self.now in
    let p = c.pop.ensures in
    let e = none_first _ (sym p.0 ∙ c.in_default.is) in
    nobody_does d a.c c.requires.0 _ p.2 (queue_at_lem d a.c ∙ e) (p.1 ∙ ap tail_of e) a.buf.now

pub returns : goal.returns
returns c =
    let a = c.args in
    let d = a.self.now in
    let p = c.pop.ensures in
    let w = c.wake-cycle.ensures in
    first_does d a.c c.requires.0 _ p.2 c.in-Some.pair _ _ c.wake-cycle.result _ _ _ _ (queue_at_lem d a.c ∙ some_first _ _ (sym p.0 ∙ c.in-Some.is)) p.1 w.0 w.2 w.1 c.report.ensures.count c.report.ensures.bytes
