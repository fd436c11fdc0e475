use Rattle.answers.proofs.Items.{reply_parts}
use Rattle.text.proofs.Puts.{then}
use Rattle.answers.proofs.answer.put_reply.Goals as goal

pub returns-in-Ok : goal.returns-in-Ok
returns-in-Ok c =
    rw (c.in-Ok.is, reply_parts)
    (then c.put_number-a.ensures (then c.put_bytes-b.ensures (then c.put_field-c.ensures c.put_byte.ensures)))

pub returns-in-Err : goal.returns-in-Err
returns-in-Err c =
    rw (c.in-Err.is, reply_parts, ← c.from.ensures)
    (then c.put_number-a.ensures (then c.put_bytes-b-in-Err.ensures (then c.put_field-c-in-Err.ensures c.put_byte-in-Err.ensures)))
