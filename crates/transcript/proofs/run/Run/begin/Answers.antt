use Rattle.transcript.proofs.Feeding.{begins}
use Rattle.transcript.proofs.run.Run.begin.Goals as goal

pub returns : goal.returns
returns c = begins _ c.new.ensures.0 c.new.ensures.1
