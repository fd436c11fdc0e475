use native.Mathlib.Omega.{arith}
use Rattle.answers.proofs.Items.{cycles_turn, cycles_none, size_turn}
use Rattle.text.proofs.Puts.{done_more, done_all, done_room}
use Rattle.answers.proofs.cycle.put_cycles.Goals as goal

pub put_cycle-to-requires-clause-room : goal.put_cycle-to-requires-clause-room
put_cycle-to-requires-clause-room c = done_room _ c.loop.invariant.0 (cycles_turn _ _ _ _ c.args.buf.now c.loop-test.true c.from-n.ensures) c.requires.room

pub loop-preserved : goal.loop-preserved
loop-preserved c = (
  done_more c.loop.invariant.0 (cycles_turn _ _ _ _ c.args.buf.now c.loop-test.true c.from-n.ensures) c.put_cycle-to.ensures,
  grind (arith, size_turn),
)

pub returns : goal.returns
returns c = done_all c.loop.invariant.0 (cycles_none _ _ (omega arith))
