use lib.ListN.{length, get_or}
use Prim.Native.Nat.{◌-◌}
use Rattle.detector.specs.Tables.{blank_cv_wait}
use Rattle.listing.proofs.Items.{Partly}
use Rattle.listing.specs.Listing.{along, cv_wait_item, cv_waits_items}
use Rattle.listing.proofs.rows.put_cv_waits.Given as goal

-- The items of the threads from t on are still to be put.
abbrev pub invariant-loop-t : goal.invariant-loop-t
invariant-loop-t l = Partly l.initial.line (cv_waits_items l.fn.waits) (along (λ k. cv_wait_item k (get_or l.fn.waits k blank_cv_wait)) l.t (length l.fn.waits - l.t)) l.line
