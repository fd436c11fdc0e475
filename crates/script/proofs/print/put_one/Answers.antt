use Rattle.text.specs.Decimal.{decimal}
use Rattle.text.proofs.Puts.{then, room_then}
use Rattle.script.proofs.Printing.{joined_one}
use Rattle.script.proofs.print.put_one.Goals as goal

pub put_field-requires : goal.put_field-requires
put_field-requires c = room_then c.put_bytes-p.ensures (rw (joined_one c.args.w.now (decimal c.args.a)) at c.requires)

pub returns : goal.returns
returns c = rw (joined_one c.args.w.now (decimal c.args.a)) (then c.put_bytes-p.ensures c.put_field.ensures)
