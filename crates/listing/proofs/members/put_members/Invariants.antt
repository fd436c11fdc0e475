use Rattle.sets.specs.Sets.{upward}
use Rattle.text.specs.Decimal.{decimal}
use Rattle.listing.proofs.Items.{Partly}
use Rattle.listing.specs.Listing.{members_of}
use mathlib.Core.List.{map}
use Rattle.listing.proofs.members.put_members.Given as goal

abbrev pub invariant-loop-j : goal.invariant-loop-j
invariant-loop-j l = Partly l.initial.line (members_of l.fn.m) (map decimal (upward 64 l.j-iterator.left)) l.line
