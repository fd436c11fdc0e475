use Rattle.answers.proofs.Items.{end_parts}
use Rattle.text.proofs.Puts.{then}
use Rattle.answers.proofs.answer.put_end.Goals as goal

pub returns : goal.returns
returns c =
    rw end_parts
    (then c.put_bytes-a.ensures (then c.put_field-b.ensures (then c.put_field-c.ensures (then c.put_field-d.ensures c.put_byte.ensures))))
