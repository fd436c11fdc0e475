use mathlib.Core.Path.{ap, ◌∙◌}
use lib.ListN.{length}
use native.Mathlib.Omega.{arith}
use Rattle.waits.proofs.Judging.{entry_step, entry_end, report_head, length_bytes}
use Rattle.waits.proofs.tables.Waits.report.Goals as goal

pub loop-t-preserved : goal.loop-t-preserved
loop-t-preserved c =
    let l = c.loop-t in (
      omega arith,
      rw (c.lock_of.ensures, c.from.ensures)
          (entry_step c.args.self.now c.threads-threads.result.now l.buf l.at l.t-index c.loop-t-test.true ∙ l.invariant.1),
    )

pub returns-clause-bytes : goal.returns-clause-bytes
returns-clause-bytes c =
    let l = c.loop-t in
    let e = c.threads-threads.ensures.0 in
    entry_end c.args.self.now c.threads-threads.result.now l.buf l.at l.t-index c.loop-t-test.false
    ∙ l.invariant.1
    ∙ rw e (report_head c.args.self.now c.args.cycle.now c.args.buf.now c.args.from)

pub returns-clause-used : goal.returns-clause-used
returns-clause-used c =
    let e = ap length c.threads-threads.ensures.0 in
    omega (arith, length_bytes c.args.self.now c.args.cycle.now)

pub returns-clause-room : goal.returns-clause-room
returns-clause-room c = omega (arith, length_bytes c.args.self.now c.args.cycle.now, c.threads-threads.ensures.1.long)
