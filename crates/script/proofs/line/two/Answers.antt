use borrow.Author.Rules.{rules}
use native.Mathlib.Omega.{arith}
use Rattle.script.specs.Words.{mc, mr, rc, rr, wc, wr}
use Rattle.script.proofs.Table.{shape_at}
use Rattle.script.proofs.line.two.Goals as goal

pub returns-in-mc : goal.returns-in-mc
returns-in-mc c = rw (shape_at mc c.args.w.now (omega arith) (search rules))

pub returns-in-mr : goal.returns-in-mr
returns-in-mr c = rw (shape_at mr c.args.w.now (omega arith) (search rules))

pub returns-in-rc : goal.returns-in-rc
returns-in-rc c = rw (shape_at rc c.args.w.now (omega arith) (search rules))

pub returns-in-rr : goal.returns-in-rr
returns-in-rr c = rw (shape_at rr c.args.w.now (omega arith) (search rules))

pub returns-in-wc : goal.returns-in-wc
returns-in-wc c = rw (shape_at wc c.args.w.now (omega arith) (search rules))

pub returns-in-wr : goal.returns-in-wr
returns-in-wr c = rw (shape_at wr c.args.w.now (omega arith) (search rules))
