use Rattle.listing.proofs.Items.{grows_then, fits_then, fits_first, opening_new, opening_old}
use Rattle.listing.proofs.line.Line.open.Goals as goal

pub bytes-requires : goal.bytes-requires
bytes-requires c = fits_first _ (rw (opening_new _ c.if-self.true) at c.requires)

pub bytes-requires-then-self : goal.bytes-requires-then-self
bytes-requires-then-self c = fits_first _ (fits_then c.bytes.ensures (rw (opening_new _ c.if-self.true) at c.requires))

pub byte-requires : goal.byte-requires
byte-requires c = fits_then c.bytes-then-self.ensures (fits_then c.bytes.ensures (rw (opening_new _ c.if-self.true) at c.requires))

pub returns-then-self : goal.returns-then-self
returns-then-self c = rw (opening_new _ c.if-self.true) (grows_then c.bytes.ensures (grows_then c.bytes-then-self.ensures c.byte.ensures))

pub byte-requires-2 : goal.byte-requires-2
byte-requires-2 c = rw (opening_old _ c.if-self.false) at c.requires

pub returns : goal.returns
returns c = rw (opening_old _ c.if-self.false) c.byte-2.ensures
