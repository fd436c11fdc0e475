use Rattle.listing.proofs.Items.{partly_none, partly_room, partly_more, partly_all}
use Rattle.listing.specs.Listing.{two, set_items}
use mathlib.Core.List.{map}
use mathlib.Core.Path.{ap}
use Rattle.listing.proofs.line.Line.set.Goals as goal

pub loop-j-init : goal.loop-j-init
unfolding set_items
loop-j-init c = rw (c.into_iter-j-iterator.ensures.into_iter_gives, c.upward-j-items.ensures) (partly_none c.requires.0 c.requires.1)

pub two-requires : goal.two-requires
two-requires c = partly_room c.loop-j.invariant _ (ap (map (two c.args.i c.args.sign)) c.in-Some.ensures.steps)

pub loop-j-preserved : goal.loop-j-preserved
loop-j-preserved c = partly_more c.loop-j.invariant (ap (map (two c.args.i c.args.sign)) c.in-Some.ensures.steps) c.two.ensures

pub returns : goal.returns
returns c = partly_all c.loop-j.invariant (ap (map (two c.args.i c.args.sign)) c.in-None.ensures.steps.0)
