use native.Mathlib.Omega.{arith}
use Rattle.answers.proofs.Items.{items_turn, items_none}
use Rattle.text.proofs.Puts.{done_more, done_all, done_room}
use Rattle.answers.proofs.cycle.put_items.Goals as goal

pub put_item-to-requires-clause-room : goal.put_item-to-requires-clause-room
put_item-to-requires-clause-room c = done_room _ c.loop-i.invariant (items_turn c.args.n c.loop-i.i c.args.from c.args.buf.now c.loop-i-test.true) c.requires.room

pub loop-i-preserved : goal.loop-i-preserved
loop-i-preserved c = done_more c.loop-i.invariant (items_turn c.args.n c.loop-i.i c.args.from c.args.buf.now c.loop-i-test.true) c.put_item-to.ensures

pub returns : goal.returns
returns c = done_all c.loop-i.invariant (items_none _ _ (omega arith))
