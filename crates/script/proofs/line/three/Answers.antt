use borrow.Author.Rules.{rules}
use native.Mathlib.Omega.{arith}
use Rattle.script.specs.Words.{ma, ra, wa, rt, cb, ce}
use Rattle.script.proofs.Table.{shape_at}
use Rattle.script.proofs.line.three.Goals as goal

pub returns-in-ma : goal.returns-in-ma
returns-in-ma c = rw (shape_at ma c.args.w.now (omega arith) (search rules))

pub returns-in-ra : goal.returns-in-ra
returns-in-ra c = rw (shape_at ra c.args.w.now (omega arith) (search rules))

pub returns-in-wa : goal.returns-in-wa
returns-in-wa c = rw (shape_at wa c.args.w.now (omega arith) (search rules))

pub returns-in_ok-no_hint-in-rt : goal.returns-in_ok-no_hint-in-rt
returns-in_ok-no_hint-in-rt c = rw (shape_at rt c.args.w.now (omega arith) (search rules)) (search rules)

pub returns-in_err-no_hint-in-rt : goal.returns-in_err-no_hint-in-rt
returns-in_err-no_hint-in-rt c = rw (shape_at rt c.args.w.now (omega arith) (search rules)) (search rules)

pub returns-in_ok-as_number-in-cb : goal.returns-in_ok-as_number-in-cb
returns-in_ok-as_number-in-cb c = rw (shape_at cb c.args.w.now (omega arith) (search rules)) (search rules)

pub returns-in_err-as_number-in-cb : goal.returns-in_err-as_number-in-cb
returns-in_err-as_number-in-cb c = rw (shape_at cb c.args.w.now (omega arith) (search rules)) (search rules)

pub returns-in_ok-as_number-in-ce : goal.returns-in_ok-as_number-in-ce
returns-in_ok-as_number-in-ce c = rw (shape_at ce c.args.w.now (omega arith) (search rules)) (search rules)

pub returns-in_err-as_number-in-ce : goal.returns-in_err-as_number-in-ce
returns-in_err-as_number-in-ce c = rw (shape_at ce c.args.w.now (omega arith) (search rules)) (search rules)
