use Rattle.answers.proofs.Items.{cycle_parts, report_at}
use Rattle.text.proofs.Puts.{then}
use Rattle.answers.proofs.cycle.put_cycle.Goals as goal

pub returns : goal.returns
returns c =
    rw (cycle_parts, report_at c.args.buf.now c.args.from c.args.n c.requires.inside.0)
    (then c.put_bytes-a.ensures (then c.put_items-b.ensures c.put_byte.ensures))
