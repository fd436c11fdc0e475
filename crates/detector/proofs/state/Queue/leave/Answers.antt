use Rattle.detector.proofs.Queues.{pairs_length, kept_pair, gone_pair, leave_one, leave_not, leave_none}
use Rattle.detector.specs.State.{pairs_of}
use lib.ListN.{length, length-append}
use Rattle.detector.specs.declared.state.Pair.{Pair}
use mathlib.Core.List.{[]}
use mathlib.Core.Path.{sym, ap, ◌∙◌}
use native.Mathlib.Omega.{arith}
use Rattle.detector.proofs.state.Queue.leave.Goals as goal
use Rattle.detector.proofs.state.Queue.leave.Goals.{then-ne, else-ne}

pub loop-pair-init : goal.loop-pair-init
loop-pair-init c =
    let e = c.new-left.ensures in
    (ap pairs_of e.0 ∙ sym (leave_none c.args.t c.args.l []), e.1, rw e.0 (omega arith))

pub loop-pair-preserved : goal.loop-pair-preserved
loop-pair-preserved c =
    let a = c.args in
    let l = c.loop-pair in
    let ps = c.pairs-pair-items.result.now in
    let i = c.loop-pair-test.true in
    elim c.if-ne.branch [
      | then-ne w ↦
          let p = w.push.ensures in (
            ap pairs_of w.left-is ∙ p.0 ∙ rw l.invariant.0 (leave_not a.t a.l ps l.pair-index i (kept_pair a.t a.l _ _ c.ne.ensures w.if-ne.true)),
            rw w.left-is p.1,
            rw w.left-is (omega (arith, pairs_length w.push.new.self p.1, ap length p.0, length-append {A = Pair}, pairs_length l.left l.invariant.1, l.invariant.2)),
          )
      | else-ne w ↦ (
        ap pairs_of w.left-is ∙ l.invariant.0 ∙ leave_one a.t a.l ps l.pair-index i (gone_pair a.t a.l _ _ c.ne.ensures w.if-ne.false),
        rw w.left-is l.invariant.1,
        rw w.left-is (omega arith),
      )
    ]
