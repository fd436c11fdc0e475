use Rattle.detector.proofs.Promises.{queued_empty}
use mathlib.Core.Path.{refl}
use Rattle.detector.proofs.state.Queue.new.Goals as goal

pub returns : goal.returns
returns c = (refl, queued_empty)
