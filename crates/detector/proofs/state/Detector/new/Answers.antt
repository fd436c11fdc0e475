use Rattle.detector.proofs.Promises.{valid_new}
use mathlib.Core.Path.{refl}
use Rattle.detector.proofs.state.Detector.new.Goals as goal

pub returns : goal.returns
returns c = rw (c.new.ensures, c.new-2.ensures.0) (refl, valid_new)
