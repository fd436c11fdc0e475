use Rattle.answers.proofs.Items.{item_parts}
use Rattle.text.proofs.Puts.{then}
use Rattle.answers.proofs.cycle.put_item.Goals as goal

pub returns : goal.returns
returns c =
    rw (item_parts c.args.buf.now c.args.from _ _ c.from.ensures c.from-2.ensures)
    (then c.put_field-a.ensures (then c.put_byte-b.ensures c.put_number.ensures))
