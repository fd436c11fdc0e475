use Prim.Native.Nat.{◌-◌}
use Rattle.listing.proofs.Items.{Partly}
use Rattle.listing.specs.Listing.{along, readers_of, readers_items}
use Rattle.listing.proofs.rows.put_readers.Given as goal

-- The items of the locks from l on are still to be put.
abbrev pub invariant-loop-l : goal.invariant-loop-l
invariant-loop-l l = Partly l.initial.line (readers_items l.counts) (along (readers_of l.counts) l.l (64 - l.l)) l.line
