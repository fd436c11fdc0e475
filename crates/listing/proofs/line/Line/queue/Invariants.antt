use lib.ListN.{drop}
use Rattle.listing.proofs.Items.{Partly}
use Rattle.listing.specs.Listing.{queue_items}
use Rattle.listing.proofs.line.Line.queue.Given as goal

-- The items of the pairs that are left are still to be put.
abbrev pub invariant-loop-p : goal.invariant-loop-p
invariant-loop-p l = Partly l.initial.self (queue_items l.c l.p-items) (queue_items l.c (drop l.p-index l.p-items)) l.self
