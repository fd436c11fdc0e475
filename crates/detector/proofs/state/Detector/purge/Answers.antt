use mathlib.Core.Path.{◌≡◌, sym, ap, ◌∙◌}
use lib.ListN.{set}
use native.Mathlib.Omega.{arith}
use Rattle.sets.proofs.Below.{each_none, each_next}
use Rattle.waits.specs.Tables.{unhold, with_intents}
use Rattle.detector.specs.Mutex.{unhold_all, purge}
use Rattle.detector.specs.Code.{put_waits}
use Rattle.detector.proofs.Ranges.{range_purge}
use Rattle.detector.proofs.Promises.{pack_waits}
use Rattle.detector.proofs.state.Detector.purge.Goals as goal

pub loop-t-init : goal.loop-t-init
loop-t-init c = ap (put_waits c.args.self.now) (sym (each_none (λ v k. unhold v k c.args.l) _))

pub loop-t-preserved : goal.loop-t-preserved
loop-t-preserved c =
    let l = c.loop-t in
    let d = c.args.self.now in
    rw c.without.ensures
    (ap (λ v. put_waits v (unhold v.waits l.t c.args.l)) l.invariant
    ∙ ap (put_waits d) (each_next (λ v k. unhold v k c.args.l) d.waits l.t))

pub returns : goal.returns
unfolding purge unhold_all
returns c =
    let l = c.loop-t in
    let z : l.t ≡ 32 = omega arith in
    pack_waits c.args.self.now _
    (ap (λ v. put_waits v (with_intents v.waits v.waits.thread_waits_for (set v.waits.lock_waiters c.args.l 0))) (rw z at l.invariant))
    (range_purge _ c.args.l c.requires.0)
