use mathlib.Core.Path.{◌≡◌, refl}
use borrow.Author.Rules.{rules}
use native.Mathlib.Omega.{arith}
use lib.ListN.{length}
use Rattle.listing.specs.Listing.{cv_waits_items}
use Rattle.listing.proofs.Items.{partly_start, partly_room, partly_more, partly_all, begun_from, table_room, close_room, closed, lent, along_more, along_none}
use Rattle.listing.proofs.rows.put_cv_waits.Goals as goal

pub loop-t-init : goal.loop-t-init
unfolding cv_waits_items
loop-t-init c = partly_start _ _ refl (begun_from c.begin-line.ensures.begun) (table_room c.begin-line.ensures.begun c.requires)

pub cv_wait-requires : goal.cv_wait-requires
cv_wait-requires c = let n : length c.args.waits.now ≡ 32 = search rules in partly_room c.loop-t.invariant _ (along_more _ _ _ (omega arith))

pub loop-t-preserved : goal.loop-t-preserved
loop-t-preserved c = let n : length c.args.waits.now ≡ 32 = search rules in partly_more c.loop-t.invariant (along_more _ _ _ (omega arith)) c.cv_wait.ensures

pub close-requires : goal.close-requires
close-requires c = let n : length c.args.waits.now ≡ 32 = search rules in close_room c.begin-line.ensures.begun (partly_all c.loop-t.invariant (along_none _ _ _ (omega arith))) c.requires

pub returns : goal.returns
returns c = let n : length c.args.waits.now ≡ 32 = search rules in lent (search rules) (closed c.begin-line.ensures.begun (partly_all c.loop-t.invariant (along_none _ _ _ (omega arith))) c.close.ensures)
