use Rattle.waits.proofs.Judging.{written_one}
use Rattle.waits.specs.Promises.{laid}
use Rattle.detector.proofs.Queues.{silent_bytes}
use mathlib.Core.Path.{sym, ap, ◌∙◌}
use Rattle.detector.proofs.state.Detector.report.Goals as goal

pub returns-in_default-clause-bytes : goal.returns-in_default-clause-bytes
returns-in_default-clause-bytes c = rw c.in_default.is (silent_bytes c.args.buf.now)

pub returns-clause-bytes : goal.returns-clause-bytes
returns-clause-bytes c = rw c.in-Some.is (c.report.ensures.bytes ∙ ap (laid c.args.buf.now 0) (sym (written_one _)))
