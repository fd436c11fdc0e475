use Rattle.detector.proofs.Promises.{does_judges}
use Rattle.detector.proofs.state.Detector.block.Goals as goal

pub returns : goal.returns
returns c =
    let a = c.attempt-cycle.ensures in
    let r = c.report.ensures in
    does_judges c.args.self.now _ _ _ _ _ _ a.0 c.requires.0 a.1 r.count r.bytes
