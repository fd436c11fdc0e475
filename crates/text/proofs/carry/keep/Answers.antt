use native.Mathlib.Omega.{arith}
use Rattle.text.proofs.Kept.{kept}
use Rattle.text.proofs.carry.keep.Goals as goal

pub returns : goal.returns
returns c = (omega arith, kept _ c.args.part.now _ _ _ _ c.requires.1 c.requires.0 c.min-n.ensures c.copy_from_slice.ensures.after)
