use Rattle.listing.proofs.Items.{grows_then, fits_then, fits_first, one_room, one_lists}
use Rattle.listing.specs.Listing.{two}
use Rattle.listing.proofs.line.Line.two.Goals as goal

pub open-requires : goal.open-requires
unfolding two
open-requires c = fits_first _ (one_room c.requires)

pub number-requires : goal.number-requires
unfolding two
number-requires c = fits_first _ (fits_then c.open.ensures (one_room c.requires))

pub byte-requires : goal.byte-requires
unfolding two
byte-requires c = fits_first _ (fits_then c.number.ensures (fits_then c.open.ensures (one_room c.requires)))

pub number-requires-2 : goal.number-requires-2
unfolding two
number-requires-2 c = fits_then c.byte.ensures (fits_then c.number.ensures (fits_then c.open.ensures (one_room c.requires)))

pub returns : goal.returns
unfolding two
returns c = one_lists (grows_then c.open.ensures (grows_then c.number.ensures (grows_then c.byte.ensures c.number-2.ensures)))
