use Rattle.listing.proofs.Items.{Partly}
use Rattle.listing.specs.Listing.{along, set_items, sets_items}
use Rattle.graph.specs.Search.{row}
use lib.ListN.{length}
use mathlib.Core.List.{map}
use Prim.Native.Nat.{◌-◌}
use Rattle.listing.proofs.members.put_sets.Given as goal

-- The items of the cells from i on are still to be put.
abbrev pub invariant-loop-i : goal.invariant-loop-i
invariant-loop-i g l = Partly l.initial.line (sets_items l.sign (map g.S.Set.mask l.rows)) (along (λ k. set_items l.sign k (row (map g.S.Set.mask l.rows) k)) l.i (length l.rows - l.i)) l.line
