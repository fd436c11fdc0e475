use Prim.Native.Nat.{◌-◌}
use Rattle.waits.specs.Counts.{count_of}
use Rattle.listing.proofs.Items.{Partly}
use Rattle.listing.specs.Listing.{along, reader_item, readers_of}
use Rattle.listing.proofs.line.Line.readers_of.Given as goal

-- The items of the threads from t on are still to be put.
abbrev pub invariant-loop-t : goal.invariant-loop-t
invariant-loop-t l = Partly l.initial.self (readers_of l.counts l.l) (along (λ k. reader_item k l.l (count_of l.counts k l.l)) l.t (32 - l.t)) l.self
