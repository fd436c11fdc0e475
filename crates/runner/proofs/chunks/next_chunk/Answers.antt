use Rattle.std.proofs.Common.{refl}
use Rattle.std.proofs.Math.Seq.{take-suc-set}
use Rattle.runner.proofs.chunks.next_chunk.Goals as goal

pub returns-then-over-clause-last : goal.returns-then-over-clause-last
returns-then-over-clause-last g c = λ e. (refl, take-suc-set c.args.inp.now 0 10 c.requires)
