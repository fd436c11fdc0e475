use Rattle.runner.proofs.Lines.{puts_plain, short, puts_none, puts_tables}
use lib.Seq.{length-take-le}
use borrow.Author.Rules.{rules}
use native.Mathlib.Omega.{arith}
use Rattle.runner.proofs.part.put_part.Goals as goal
use Rattle.runner.proofs.part.put_part.Goals.{else-tables-via-then-tables+else-run-lines, else-tables-via-else-tables}

pub feed_within-t-requires : goal.feed_within-t-requires
feed_within-t-requires c =
    let e = c.part_end-end in
    record { kept = c.requires.0; start = omega (arith, e.ensures.onward, length-take-le e.result c.args.chunk.now e.ensures.inside); place = omega arith; reports = c.args.buffers.now.lengths.2 }

pub put_tables-requires : goal.put_tables-requires
put_tables-requires c =
    let t = c.feed_within-t in
    let k = short c.part_end-end.ensures t.ensures c.requires.1 c.args.buffers.now.lengths.1 c.if-tables.true in
    (t.ensures.moves.kept.valid, search rules)

pub returns-then-run-lines : goal.returns-then-run-lines
returns-then-run-lines c =
    let t = c.feed_within-t in
    let p = c.put_tables.ensures in
    puts_tables c.part_end-end.ensures t.ensures c.requires.1 c.args.buffers.now.lengths.1 c.if-tables.true _ _ c.if-run-lines.true p.0 p.1

pub returns-else-tables : goal.returns-else-tables
returns-else-tables c =
    let t = c.feed_within-t in
    elim c.else-tables.branch [
      | else-tables-via-then-tables+else-run-lines w ↦ rw w.buffers-is (puts_none c.part_end-end.ensures t.ensures c.requires.1 c.args.buffers.now.lengths.1 w.if-tables.true w.if-run-lines.false)
      | else-tables-via-else-tables w ↦ rw w.buffers-is (puts_plain c.part_end-end.ensures t.ensures c.requires.1 c.args.buffers.now.lengths.1 w.if-tables.false)
    ]
