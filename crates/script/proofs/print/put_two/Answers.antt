use mathlib.Core.List.{◌∷◌, []}
use Rattle.text.specs.Decimal.{decimal}
use Rattle.text.proofs.Puts.{then, room_first, room_then}
use Rattle.script.proofs.Printing.{joined_more}
use Rattle.script.proofs.print.put_two.Goals as goal

pub put_one-p-requires : goal.put_one-p-requires
put_one-p-requires c = room_first _ (rw (joined_more c.args.w.now (decimal c.args.a ∷ []) (decimal c.args.b)) at c.requires)

pub put_field-requires : goal.put_field-requires
put_field-requires c = room_then c.put_one-p.ensures (rw (joined_more c.args.w.now (decimal c.args.a ∷ []) (decimal c.args.b)) at c.requires)

pub returns : goal.returns
returns c = rw (joined_more c.args.w.now (decimal c.args.a ∷ []) (decimal c.args.b)) (then c.put_one-p.ensures c.put_field.ensures)
