use Rattle.detector.proofs.Promises.{does_judges}
use Rattle.detector.proofs.Ranges.{range_gain}
use Rattle.detector.proofs.state.Detector.take.Goals as goal

pub settle-cycle-requires : goal.settle-cycle-requires
settle-cycle-requires c =
    (rw (c.clear_wait_intent.ensures.0, c.with.ensures) (range_gain c.args.self.now.waits c.args.t c.args.l c.requires.0.waits), c.requires.2)

pub returns : goal.returns
returns c =
    let s = c.settle-cycle.ensures in
    let r = c.report.ensures in
    let e = rw (c.clear_wait_intent.ensures.0, c.with.ensures) at s.0 in
    does_judges c.args.self.now _ _ _ _ _ _ e c.requires.0 s.1 r.count r.bytes
