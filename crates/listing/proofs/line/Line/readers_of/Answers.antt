use mathlib.Core.Path.{refl}
use Rattle.listing.specs.Listing.{readers_of}
use Rattle.listing.proofs.Items.{partly_start, partly_room, partly_more, partly_all, along_more, along_none}
use Rattle.listing.proofs.line.Line.readers_of.Goals as goal

pub loop-t-init : goal.loop-t-init
unfolding readers_of
loop-t-init c = partly_start _ _ refl c.requires.0 c.requires.2

pub reader-requires : goal.reader-requires
reader-requires c = rw c.place.ensures.0 (partly_room c.loop-t.invariant _ (along_more _ _ _ c.loop-t-test.true))

pub loop-t-preserved : goal.loop-t-preserved
loop-t-preserved c = partly_more c.loop-t.invariant (along_more _ _ _ c.loop-t-test.true) (rw c.place.ensures.0 at c.reader.ensures)

pub returns : goal.returns
returns c = partly_all c.loop-t.invariant (along_none _ _ _ c.loop-t-test.false)
