use borrow.Author.Rules.{rules}
use mathlib.Core.Path.{◌≡◌, refl, sym, ◌∙◌}
use mathlib.Core.List.{map}
use lib.ListN.{length-map}
use Rattle.graph.specs.Search.{row}
use Rattle.listing.specs.Listing.{sets_items}
use Rattle.listing.proofs.Items.{partly_on, partly_start, partly_room, partly_more, partly_all, begun_from, table_room, close_room, closed, lent, along_more, along_none, row_mask}
use Rattle.listing.proofs.members.put_sets.Goals as goal
use Rattle.listing.proofs.members.put_sets.Goals.{After-wide}
use Rattle.listing.proofs.members.put_sets.Given.{Over}

pub loop-i-init : goal.loop-i-init
unfolding sets_items
loop-i-init g c = partly_start _ _ (rw length-map refl) (begun_from c.begin-line.ensures.begun) (table_room c.begin-line.ensures.begun c.requires)

-- The set that is put is the one in cell i.
cell : (g : Over) (c : After-wide g) → c.wide.result ≡ row (map g.S.Set.mask c.args.rows.now) c.loop-i.i
cell g c = c.wide.ensures.0 ∙ sym (row_mask g.S.Set.mask c.args.rows.now c.loop-i.i _ c.loop-i-test.true c.index-rows-i.is)

pub set-requires : goal.set-requires
set-requires g c = (partly_on c.loop-i.invariant, rw cell (partly_room c.loop-i.invariant _ (along_more _ _ _ c.loop-i-test.true)))

pub loop-i-preserved : goal.loop-i-preserved
loop-i-preserved g c = partly_more c.loop-i.invariant (along_more _ _ _ c.loop-i-test.true) (rw (cell g (goal.at.loop-i-preserved g c).After-wide) at c.set.ensures)

pub close-requires : goal.close-requires
close-requires g c = close_room c.begin-line.ensures.begun (partly_all c.loop-i.invariant (along_none _ _ _ c.loop-i-test.false)) c.requires

pub returns : goal.returns
returns g c = lent (search rules) (closed c.begin-line.ensures.begun (partly_all c.loop-i.invariant (along_none _ _ _ c.loop-i-test.false)) c.close.ensures)
