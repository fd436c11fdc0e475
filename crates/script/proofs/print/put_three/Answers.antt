use mathlib.Core.List.{◌∷◌, []}
use Rattle.text.specs.Decimal.{decimal}
use Rattle.text.proofs.Puts.{then, room_first, room_then}
use Rattle.script.specs.Printed.{outcome_text}
use Rattle.script.proofs.Printing.{joined_more}
use Rattle.script.proofs.print.put_three.Goals as goal

pub put_two-p-requires : goal.put_two-p-requires
put_two-p-requires c = room_first _ (rw (joined_more c.args.w.now (decimal c.args.a ∷ decimal c.args.b ∷ []) (outcome_text c.args.o)) at c.requires)

pub put_outcome-requires : goal.put_outcome-requires
put_outcome-requires c = room_then c.put_two-p.ensures (rw (joined_more c.args.w.now (decimal c.args.a ∷ decimal c.args.b ∷ []) (outcome_text c.args.o)) at c.requires)

pub returns : goal.returns
returns c = rw (joined_more c.args.w.now (decimal c.args.a ∷ decimal c.args.b ∷ []) (outcome_text c.args.o)) (then c.put_two-p.ensures c.put_outcome.ensures)
