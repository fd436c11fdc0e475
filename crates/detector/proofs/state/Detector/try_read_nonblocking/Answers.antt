use mathlib.Core.Path.{ap}
use Rattle.waits.specs.Counts.{count_up}
use Rattle.waits.specs.Waiting.{Linking}
use Rattle.waits.proofs.Laws.{range_refresh}
use Rattle.detector.specs.RwLock.{try_read}
use Rattle.detector.proofs.Promises.{put_counts, alike, does_counts}
use Rattle.detector.proofs.state.Detector.try_read_nonblocking.Goals as goal

pub returns-in-Taken : goal.returns-in-Taken
unfolding try_read
returns-in-Taken c b =
    let a = c.args in
    let d = a.self.now in
    let e = ap (λ (s : Linking). s.waits) (rw c.count_up.ensures at c.refresh_waiters_for_lock.ensures.0) in
    rw (c.in-Taken.is, c.count_up.ensures)
    (alike (ap (λ w. put_counts d w (count_up d.rwlock_readers a.t a.l)) e) (does_counts d _ _ c.requires.0 (range_refresh _ _ a.l c.requires.0.waits) b))

pub returns-in_default : goal.returns-in_default
returns-in_default c b =
    let d = c.args.self.now in
    rw c.in_default.is (does_counts d d.waits d.rwlock_readers c.requires.0 c.requires.0.waits b)
