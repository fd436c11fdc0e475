use Rattle.detector.proofs.StuckLaws.{rows_none, rows_more, rows_all}
use mathlib.Core.Path.{◌≡◌, ◌∙◌}
use native.Mathlib.Omega.{arith}
use Rattle.detector.proofs.state.Detector.true_waits.Goals as goal

pub loop-t-init : goal.loop-t-init
loop-t-init c = let d = c.args.self.now in rows_none d.rwlock_readers d.waits

pub loop-t-preserved : goal.loop-t-preserved
loop-t-preserved c =
    let d = c.args.self.now in
    let l = c.loop-t in
    rw l.invariant (rows_more d.rwlock_readers d.waits l.t _ c.blocking_mask.ensures)

pub returns : goal.returns
returns c = let z : c.loop-t.t ≡ 32 = omega arith in c.loop-t.invariant ∙ rw z (rows_all _ _)
