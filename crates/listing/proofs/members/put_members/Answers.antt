use borrow.Author.Rules.{rules}
use Rattle.listing.proofs.Items.{partly_none, partly_room, partly_more, partly_all, begun_from, table_room, close_room, closed, lent}
use Rattle.listing.specs.Listing.{members_of}
use Rattle.text.specs.Decimal.{decimal}
use mathlib.Core.List.{map}
use mathlib.Core.Path.{ap}
use Rattle.listing.proofs.members.put_members.Goals as goal

pub loop-j-init : goal.loop-j-init
unfolding members_of
loop-j-init c = rw (c.into_iter-j-iterator.ensures.into_iter_gives, c.upward-j-items.ensures, c.wide.ensures.0) (partly_none (begun_from c.begin-line.ensures.begun) (table_room c.begin-line.ensures.begun c.requires))

pub one-requires : goal.one-requires
one-requires c = partly_room c.loop-j.invariant _ (ap (map decimal) c.in-Some.ensures.steps)

pub loop-j-preserved : goal.loop-j-preserved
loop-j-preserved c = partly_more c.loop-j.invariant (ap (map decimal) c.in-Some.ensures.steps) c.one.ensures

pub close-requires : goal.close-requires
close-requires c = close_room c.begin-line.ensures.begun (partly_all c.loop-j.invariant (ap (map decimal) c.in-None.ensures.steps.0)) c.requires

pub returns : goal.returns
returns c = lent (search rules) (closed c.begin-line.ensures.begun (partly_all c.loop-j.invariant (ap (map decimal) c.in-None.ensures.steps.0)) c.close.ensures)
