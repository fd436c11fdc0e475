use Rattle.listing.proofs.Items.{grows_then, fits_then, fits_first, one_room, one_lists}
use Rattle.listing.proofs.line.Line.one.Goals as goal

pub open-requires : goal.open-requires
open-requires c = fits_first _ (one_room c.requires)

pub number-requires : goal.number-requires
number-requires c = fits_then c.open.ensures (one_room c.requires)

pub returns : goal.returns
returns c = one_lists (grows_then c.open.ensures c.number.ensures)
