use Rattle.listing.proofs.Items.{partly_none, partly_room, partly_more, partly_all, queue_more, queue_none}
use Rattle.listing.proofs.line.Line.queue.Goals as goal

pub loop-p-init : goal.loop-p-init
loop-p-init c = partly_none c.requires.0 (rw c.pairs-p-items.ensures c.requires.2)

pub pair-requires : goal.pair-requires
pair-requires c = partly_room c.loop-p.invariant _ (queue_more _ _ _ c.loop-p-test.true)

pub loop-p-preserved : goal.loop-p-preserved
loop-p-preserved c = partly_more c.loop-p.invariant (queue_more _ _ _ c.loop-p-test.true) c.pair.ensures

pub returns : goal.returns
returns c = rw c.pairs-p-items.ensures at (partly_all c.loop-p.invariant (queue_none _ _ _ c.loop-p-test.false))
