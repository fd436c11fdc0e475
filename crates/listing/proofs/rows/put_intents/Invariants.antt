use lib.ListN.{length, get_or}
use Prim.Native.Nat.{◌-◌}
use Rattle.std.specs.Prelude.{None}
use Rattle.listing.proofs.Items.{Partly}
use Rattle.listing.specs.Listing.{along, intent_item, intents_items}
use Rattle.listing.proofs.rows.put_intents.Given as goal

-- The items of the threads from t on are still to be put.
abbrev pub invariant-loop-t : goal.invariant-loop-t
invariant-loop-t l = Partly l.initial.line (intents_items l.intents) (along (λ k. intent_item k (get_or l.intents k None)) l.t (length l.intents - l.t)) l.line
