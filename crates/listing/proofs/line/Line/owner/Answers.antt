use borrow.Author.Tests.{le-ltb}
use Rattle.listing.proofs.Items.{lists_none}
use Rattle.listing.proofs.line.Line.owner.Goals as goal

pub returns-else-o-lt-NOBODY : goal.returns-else-o-lt-NOBODY
returns-else-o-lt-NOBODY c = rw (le-ltb _ _ c.if-o-lt-NOBODY.false) lists_none
