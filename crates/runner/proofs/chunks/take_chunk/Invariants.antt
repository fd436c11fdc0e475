use Rattle.std.proofs.Common.{◌-◌, length}
use Rattle.transcript.specs.Promises.{Moves}
use Rattle.runner.proofs.chunks.take_chunk.Given as goal

abbrev pub invariant-loop-i : goal.invariant-loop-i
invariant-loop-i g l = Moves l.initial.run l.initial.buffers.carry l.chunk 0 l.i l.run l.buffers.carry

abbrev pub decreases-loop-i : goal.decreases-loop-i
decreases-loop-i g l = length l.chunk - l.i
