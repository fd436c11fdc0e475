use Rattle.transcript.specs.Promises.{IsRun}
use Rattle.runner.proofs.chunks.run_script.Given as goal

abbrev pub invariant-loop : goal.invariant-loop
invariant-loop g l = IsRun l.run l.buffers.carry
