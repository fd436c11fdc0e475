use mathlib.Core.Path.{refl}
use native.Mathlib.Omega.{arith}
use Rattle.text.proofs.Puts.{put_mid_sets}
use Rattle.text.proofs.put.put_bytes.Goals as goal

pub returns : goal.returns
returns c = record { bytes = put_mid_sets _ _ _ _ _ c.requires.fits (omega arith) c.copy_from_slice.ensures.after; place = refl }
