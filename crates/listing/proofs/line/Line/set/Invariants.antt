use Rattle.sets.specs.Sets.{upward}
use Rattle.listing.proofs.Items.{Partly}
use Rattle.listing.specs.Listing.{two, set_items}
use mathlib.Core.List.{map}
use Rattle.listing.proofs.line.Line.set.Given as goal

abbrev pub invariant-loop-j : goal.invariant-loop-j
invariant-loop-j l = Partly l.initial.self (set_items l.sign l.i l.m) (map (two l.i l.sign) (upward 64 l.j-iterator.left)) l.self
