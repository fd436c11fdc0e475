use Rattle.detector.proofs.Queues.{attempted_some, attempted_none}
use mathlib.Core.Path.{◌∙◌, ap}
use Rattle.sets.specs.Sets.{with}
use Rattle.waits.specs.Attempt.{block_mutex}
use Rattle.detector.specs.Code.{put_woken}
use Rattle.detector.proofs.state.Detector.wake.Goals as goal

pub returns-then-self-l-lt-NOBODY : goal.returns-then-self-l-lt-NOBODY
returns-then-self-l-lt-NOBODY c =
    let d = c.args.self.now in
    let w = c.attempt.ensures in (
      w.0
          ∙ ap (λ t. block_mutex d.rwlock_readers d.waits t c.from-l.result) c.from-t.ensures
          ∙ attempted_some d.rwlock_readers d.waits c.args.pair c.from-l.result c.from-l.ensures c.if-self-l-lt-NOBODY.true,
      ap (put_woken d c.attempt.new.self) (c.with-self.ensures ∙ ap (with d.cv_woken) c.from-t.ensures),
      w.1,
    )

pub returns : goal.returns
returns c =
    let d = c.args.self.now in (
      attempted_none d.rwlock_readers d.waits c.args.pair c.from-l.result c.from-l.ensures c.if-self-l-lt-NOBODY.false,
      ap (put_woken d d.waits) (c.with-self.ensures ∙ ap (with d.cv_woken) c.from-t.ensures),
      c.requires.0,
    )
