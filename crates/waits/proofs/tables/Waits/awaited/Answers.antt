use mathlib.Core.Path.{◌∙◌}
use Rattle.waits.proofs.Masks.{awaited_step, awaited_end}
use Rattle.waits.proofs.tables.Waits.awaited.Goals.{in-Some, in_default}
use Rattle.waits.proofs.tables.Waits.awaited.Goals as goal

pub loop-t-preserved : goal.loop-t-preserved
loop-t-preserved c =
    let l = c.loop-t in
    let s = c.args.self.now in
    let p = c.threads-t-items.result.now in
    let step = awaited_step s p l.locks l.t-index c.loop-t-test.true ∙ l.invariant in
    elim c.match-self-from.branch [
      | in-Some w ↦ rw (w.locks-is, w.with-locks.ensures, w.from-in-Some.ensures) (rw (← c.from.ensures, w.in-Some.is) at step)
      | in_default w ↦ rw w.locks-is (rw (← c.from.ensures, w.in_default.is) at step)
    ]

pub returns : goal.returns
returns c =
    let l = c.loop-t in
    awaited_end c.args.self.now c.threads-t-items.result.now l.locks l.t-index c.loop-t-test.false ∙ l.invariant
