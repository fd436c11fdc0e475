use mathlib.Core.Path.{ap, ◌∙◌}
use Rattle.waits.specs.Waiting.{Linking, refresh}
use Rattle.waits.proofs.Laws.{range_refresh}
use Rattle.detector.specs.Mutex.{release_mutex}
use Rattle.detector.specs.Code.{put_waits}
use Rattle.detector.proofs.Promises.{alike, does_waits, released_is}
use Rattle.detector.proofs.Ranges.{range_released}
use Rattle.detector.proofs.state.Detector.release_mutex.Goals as goal

pub returns : goal.returns
unfolding release_mutex
returns c b =
    let a = c.args in
    let d = a.self.now in
    let e = rw (c.without.ensures, c.disown.ensures) at c.refresh_waiters_for_lock.ensures.0 in
    let f = ap (λ (s : Linking). s.waits) (e ∙ ap (λ w. refresh d.rwlock_readers w a.l) (released_is d.waits a.t a.l)) in
    alike (ap (put_waits d) f) (does_waits d _ c.requires.0 (range_refresh _ _ a.l (range_released d.waits a.t a.l c.requires.0.waits)) b)
