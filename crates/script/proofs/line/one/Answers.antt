use borrow.Author.Rules.{rules}
use native.Mathlib.Omega.{arith}
use Rattle.script.specs.Words.{md, rd, cn, cd, c1, ca}
use Rattle.script.proofs.Table.{shape_at}
use Rattle.script.proofs.line.one.Goals as goal

pub returns-in-md : goal.returns-in-md
returns-in-md c = rw (shape_at md c.args.w.now (omega arith) (search rules))

pub returns-in-rd : goal.returns-in-rd
returns-in-rd c = rw (shape_at rd c.args.w.now (omega arith) (search rules))

pub returns-in-cn : goal.returns-in-cn
returns-in-cn c = rw (shape_at cn c.args.w.now (omega arith) (search rules))

pub returns-in-cd : goal.returns-in-cd
returns-in-cd c = rw (shape_at cd c.args.w.now (omega arith) (search rules))

pub returns-in-c1 : goal.returns-in-c1
returns-in-c1 c = rw (shape_at c1 c.args.w.now (omega arith) (search rules))

pub returns-in-ca : goal.returns-in-ca
returns-in-ca c = rw (shape_at ca c.args.w.now (omega arith) (search rules))
