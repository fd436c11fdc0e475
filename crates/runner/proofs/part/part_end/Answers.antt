use Rattle.runner.proofs.Lines.{whole_part, line_part, rest_part}
use native.Mathlib.Omega.{arith}
use Rattle.runner.proofs.part.part_end.Goals as goal

pub returns-then-not-tables : goal.returns-then-not-tables
returns-then-not-tables c = whole_part _ _ c.if-not-tables.true c.requires

pub returns-then-end-chunk : goal.returns-then-end-chunk
returns-then-end-chunk c = line_part c.requires c.up_to-end.ensures.0 c.if-end-chunk.true

pub returns : goal.returns
returns c = rest_part c.requires c.up_to-end.ensures.0 (omega (arith, c.up_to-end.ensures.1, c.if-end-chunk.false))
