use Rattle.std.proofs.Common.{arith}
use Rattle.transcript.proofs.Chunk.{moves_none, moves_on, moves_full}
use Rattle.runner.proofs.chunks.take_chunk.Goals as goal

pub loop-i-init : goal.loop-i-init
loop-i-init g c = moves_none _ _ _ 0 c.requires (omega arith)

pub loop-i-preserved : goal.loop-i-preserved
loop-i-preserved g c = moves_on c.loop-i.invariant c.put_part-t.ensures.moves

pub returns-else-run-ne-LIMIT : goal.returns-else-run-ne-LIMIT
returns-else-run-ne-LIMIT g c = (c.loop-i.invariant.kept, moves_full c.loop-i.invariant c.if-run-ne-LIMIT.false)
