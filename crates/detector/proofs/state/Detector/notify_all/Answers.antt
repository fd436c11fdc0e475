use Rattle.detector.proofs.Queues.{queued_state, begun, wakes_start, wake_more, wake_less, walk_on, woken_again, wake_none, notify_does}
use Rattle.detector.proofs.Numbers.{queue_at_lem}
use Rattle.detector.specs.Condvar.{notify_all, notify, wake_all}
use Rattle.detector.specs.State.{pairs_of, tables}
use mathlib.Core.Path.{refl, sym, ap, subst, ◌∙◌}
use native.Mathlib.Omega.{arith}
use lib.ListN.{get_or, take}
use mathlib.Core.List.{[]}
use Rattle.waits.specs.Code.{judged}
use Rattle.std.proofs.lemmas.List.{take_all}
use Rattle.detector.specs.Tables.{no_pair, queue_of}
use Rattle.detector.specs.Promises.{Does, Wakes}
use Rattle.detector.specs.declared.state.Detector.{Detector}
use Rattle.detector.proofs.state.Detector.notify_all.Goals as goal
use Rattle.detector.proofs.state.Detector.notify_all.Goals.{in-Some, in_default}

pub loop-pair-init : goal.loop-pair-init
loop-pair-init c =
    let d = c.args.self.now in
    let k = wakes_start d c.args.buf.now c.requires.0.waits in
    let w = rw (← wake_none d.rwlock_readers (begun d) []) at k in
    (record { waits = w.waits; woken = w.woken; count = w.count; bytes = w.bytes; used = w.used; in_range = w.in_range }, refl, omega arith, omega arith)

pub loop-pair-preserved : goal.loop-pair-preserved
loop-pair-preserved c =
    let d = c.args.self.now in
    let b = c.args.buf.now in
    let l = c.loop-pair in
    let v = l.invariant in
    let ps = c.pairs-pair-items.result.now in
    let i = c.loop-pair-test.true in
    let k = c.wake.ensures in
    let p = get_or ps l.pair-index no_pair in
    let r = ap (λ (x : Detector). x.rwlock_readers) v.1 in
    let s = wake_all d.rwlock_readers (begun d) (take l.pair-index ps) in
    let z = woken_again (queued_state d c.args.c c.new.result d.condvars.thread_wait_cv d.waits d.cv_woken) l.self c.wake.new.self _ _ v.1 k.1 in
    elim c.match-wake.branch [
      | in-Some w ↦
          let e = w.report-used.ensures in
          let x = wake_more l.self p l.reports l.used b l.buf w.report-used.new.buf w.report-used.result s c.wake.new.self.waits w.in-Some.cycle v.0 (w.in-Some.ensures {u = tt}).0 k.2 e.bytes e.used in (
            rw (w.reports-is, w.used-is, w.buf-is) (walk_on d.rwlock_readers (begun d) ps l.pair-index l.self c.wake.new.self _ _ _ b w.report-used.new.buf i r k.1 x),
            z,
            rw w.used-is (omega (arith, e.used, e.room, v.2)),
            rw w.reports-is (omega (arith, v.3)),
          )
      | in_default w ↦
          let j = ap (judged c.wake.new.self.waits) (sym w.in_default.is) ∙ k.0 in
          let x = wake_less l.self p l.reports l.used b l.buf s c.wake.new.self.waits v.0 j k.2 in (
            rw (w.reports-is, w.used-is, w.buf-is) (walk_on d.rwlock_readers (begun d) ps l.pair-index l.self c.wake.new.self _ _ _ b l.buf i r k.1 x),
            z,
            rw w.used-is (omega (arith, v.2)),
            rw w.reports-is (omega (arith, v.3)),
          )
    ]

pub returns : goal.returns
unfolding notify_all
returns c =
    let d = c.args.self.now in
    let l = c.loop-pair in
    let v = l.invariant in
    let ps = c.pairs-pair-items.result.now in
    let e = take_all l.pair-index ps (omega arith) ∙ c.pairs-pair-items.ensures ∙ sym (queue_at_lem d c.args.c) in
    let q = c.new.result in
    let g = queued_state d c.args.c q d.condvars.thread_wait_cv l.self.waits l.self.cv_woken in
    let w = subst (λ x. Wakes x l.reports l.used c.args.buf.now l.buf (wake_all d.rwlock_readers (begun d) (queue_of (tables d) c.args.c))) v.1 (rw e at v.0) in
    subst (λ x. Does x l.reports c.args.buf.now l.buf (notify (tables d) c.args.c (queue_of (tables d) c.args.c) [])) (sym v.1)
    (notify_does d c.args.c q [] (queue_of (tables d) c.args.c) l.self.waits l.self.cv_woken _ _ _ _ c.requires.0 c.new.ensures.1 (ap pairs_of c.new.ensures.0) w)
