use mathlib.Core.Path.{ap, ◌∙◌, subst}
use Rattle.waits.specs.Tables.{InRange}
use Rattle.detector.specs.Mutex.{purge, destroy_mutex}
use Rattle.detector.specs.Code.{put_waits}
use Rattle.detector.proofs.Promises.{alike, does_waits}
use Rattle.detector.proofs.Ranges.{range_purge}
use Rattle.detector.proofs.state.Detector.destroy_mutex.Goals as goal

pub returns : goal.returns
unfolding destroy_mutex
returns c b =
    let n = c.clear_naming.ensures in
    let p = c.purge.ensures in
    let e = p.0 ∙ ap (λ d. put_waits d (purge d.waits c.args.l)) n.0 in
    alike e (does_waits c.args.self.now _ c.requires.0 (range_purge _ c.args.l (subst (λ x. InRange x.waits) n.0 n.1)) b)
