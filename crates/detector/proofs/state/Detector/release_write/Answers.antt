use mathlib.Core.Path.{ap, ◌∙◌}
use Rattle.detector.specs.RwLock.{loosen, release_write}
use Rattle.detector.specs.Code.{put_waits}
use Rattle.detector.proofs.Promises.{alike, does_waits, write_released_is}
use Rattle.detector.proofs.Ranges.{range_write_released, range_loosen}
use Rattle.detector.proofs.state.Detector.release_write.Goals as goal

pub returns : goal.returns
unfolding release_write
returns c b =
    let a = c.args in
    let d = a.self.now in
    let e = rw (c.without.ensures, c.disown.ensures) at c.loosen.ensures in
    alike (e ∙ ap (λ w. put_waits d (loosen w a.t a.l)) (write_released_is d.waits a.t a.l))
    (does_waits d _ c.requires.0 (range_loosen _ a.t a.l (range_write_released d.waits a.t a.l c.requires.0.waits)) b)
