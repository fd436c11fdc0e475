use lib.Dec.{lit≤}
use Rattle.waits.proofs.Laws.{range_write}
use Rattle.detector.specs.RwLock.{destroy_rw_lock}
use Rattle.detector.proofs.Promises.{does_counts}
use Rattle.detector.proofs.Ranges.{range_purge}
use Rattle.detector.proofs.state.Detector.destroy_rwlock.Goals as goal

pub returns : goal.returns
unfolding destroy_rw_lock
returns c b =
    let d = c.args.self.now in
    rw (c.purge.ensures.0, c.no_readers.ensures)
    (does_counts d _ _ c.requires.0 (range_purge _ c.args.l (range_write d.waits c.args.l 32 (lit≤ tt) c.requires.0.waits)) b)
