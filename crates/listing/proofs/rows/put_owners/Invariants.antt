use Rattle.graph.specs.Search.{row}
use lib.ListN.{length}
use Prim.Native.Nat.{◌-◌}
use Rattle.listing.proofs.Items.{Partly}
use Rattle.listing.specs.Listing.{along, owner_item, owners_items}
use Rattle.listing.proofs.rows.put_owners.Given as goal

-- The items of the locks from l on are still to be put.
abbrev pub invariant-loop-l : goal.invariant-loop-l
invariant-loop-l l = Partly l.initial.line (owners_items l.owners) (along (λ k. owner_item (row l.owners k) k) l.l (length l.owners - l.l)) l.line
