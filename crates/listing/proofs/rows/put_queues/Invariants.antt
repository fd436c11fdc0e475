use mathlib.Core.List.{map}
use lib.ListN.{length}
use Prim.Native.Nat.{◌-◌}
use Rattle.detector.specs.State.{pairs_of}
use Rattle.listing.proofs.Items.{Partly, queue_at}
use Rattle.listing.specs.Listing.{along, queues_items}
use Rattle.listing.proofs.rows.put_queues.Given as goal

-- The items of the condvars from c on are still to be put.
abbrev pub invariant-loop-c : goal.invariant-loop-c
invariant-loop-c l = Partly l.initial.line (queues_items (map pairs_of l.fn.queues)) (along (queue_at l.fn.queues) l.c (length (map pairs_of l.fn.queues) - l.c)) l.line
