use Rattle.listing.proofs.Items.{grows_then, fits_then, fits_first, one_room, one_lists}
use Rattle.listing.specs.Listing.{three}
use Rattle.listing.proofs.line.Line.three.Goals as goal

pub open-requires : goal.open-requires
unfolding three
open-requires c = fits_first _ (one_room c.requires)

pub number-requires : goal.number-requires
unfolding three
number-requires c = fits_first _ (fits_then c.open.ensures (one_room c.requires))

pub byte-requires : goal.byte-requires
unfolding three
byte-requires c = fits_first _ (fits_then c.number.ensures (fits_then c.open.ensures (one_room c.requires)))

pub number-requires-2 : goal.number-requires-2
unfolding three
number-requires-2 c = fits_first _ (fits_then c.byte.ensures (fits_then c.number.ensures (fits_then c.open.ensures (one_room c.requires))))

pub byte-requires-2 : goal.byte-requires-2
unfolding three
byte-requires-2 c = fits_first _ (fits_then c.number-2.ensures (fits_then c.byte.ensures (fits_then c.number.ensures (fits_then c.open.ensures (one_room c.requires)))))

pub number-requires-3 : goal.number-requires-3
unfolding three
number-requires-3 c = fits_then c.byte-2.ensures (fits_then c.number-2.ensures (fits_then c.byte.ensures (fits_then c.number.ensures (fits_then c.open.ensures (one_room c.requires)))))

pub returns : goal.returns
unfolding three
returns c = one_lists (grows_then c.open.ensures (grows_then c.number.ensures (grows_then c.byte.ensures (grows_then c.number-2.ensures (grows_then c.byte-2.ensures c.number-3.ensures)))))
