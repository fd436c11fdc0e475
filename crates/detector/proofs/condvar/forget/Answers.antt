use Rattle.detector.proofs.Queues.{forget_none, forget_more, forget_same, forget_all, forget_at}
use Rattle.detector.specs.Condvar.{condvar_at}
use Rattle.detector.specs.Tables.{no_cv_wait}
use lib.ListN.{set}
use Rattle.std.proofs.lemmas.List.{set-get_or}
use Rattle.detector.specs.Tables.{blank_cv_wait}
use mathlib.Core.Path.{◌≡◌, sym, ap, ◌∙◌}
use native.Mathlib.Omega.{arith}
use Rattle.detector.proofs.condvar.forget.Goals as goal
use Rattle.detector.proofs.condvar.forget.Goals.{then-from-c, else-from-c}

pub loop-wait-init : goal.loop-wait-init
loop-wait-init c = forget_none c.args.cv_waits.now c.args.c

pub loop-wait-preserved : goal.loop-wait-preserved
loop-wait-preserved c =
    let v = c.args.cv_waits.now in
    let l = c.loop-wait in
    let read : c.from.result ≡ condvar_at v l.wait-index =
    c.from.ensures ∙ ap (λ u. condvar_at u l.wait-index) l.invariant ∙ forget_at v c.args.c l.wait-index l.wait-index (omega arith) in
    elim c.if-from-c.branch [
      | then-from-c w ↦ w.cv_waits-is ∙ ap (λ u. set u l.wait-index no_cv_wait) l.invariant ∙ forget_more v c.args.c l.wait-index (sym read ∙ w.if-from-c.true)
      | else-from-c w ↦ w.cv_waits-is ∙ set-get_or l.cv_waits l.wait-index blank_cv_wait ∙ l.invariant ∙ forget_same v c.args.c l.wait-index (λ e. w.if-from-c.false (read ∙ e))
    ]

pub returns : goal.returns
returns c = let z : c.loop-wait.wait-index ≡ 32 = omega arith in c.loop-wait.invariant ∙ rw z (forget_all c.args.cv_waits.now c.args.c)
