use borrow.Author.Rules.{rules}
use mathlib.Core.Path.{refl}
use Rattle.listing.specs.Listing.{readers_items}
use Rattle.listing.proofs.Items.{partly_on, partly_start, partly_room, partly_more, partly_all, begun_from, table_room, close_room, closed, lent, along_more, along_none}
use Rattle.listing.proofs.rows.put_readers.Goals as goal

pub loop-l-init : goal.loop-l-init
unfolding readers_items
loop-l-init c = partly_start _ _ refl (begun_from c.begin-line.ensures.begun) (table_room c.begin-line.ensures.begun c.requires)

pub readers_of-requires : goal.readers_of-requires
readers_of-requires c = (partly_on c.loop-l.invariant, c.loop-l-test.true, partly_room c.loop-l.invariant _ (along_more _ _ _ c.loop-l-test.true))

pub loop-l-preserved : goal.loop-l-preserved
loop-l-preserved c = partly_more c.loop-l.invariant (along_more _ _ _ c.loop-l-test.true) c.readers_of.ensures

pub close-requires : goal.close-requires
close-requires c = close_room c.begin-line.ensures.begun (partly_all c.loop-l.invariant (along_none _ _ _ c.loop-l-test.false)) c.requires

pub returns : goal.returns
returns c = lent (search rules) (closed c.begin-line.ensures.begun (partly_all c.loop-l.invariant (along_none _ _ _ c.loop-l-test.false)) c.close.ensures)
