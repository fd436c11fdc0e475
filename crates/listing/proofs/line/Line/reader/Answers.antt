use borrow.Author.Tests.{eq-eqb}
use Rattle.listing.proofs.Items.{lists_none}
use Rattle.listing.proofs.line.Line.reader.Goals as goal

pub returns-else-n-ne0 : goal.returns-else-n-ne0
returns-else-n-ne0 c = rw (eq-eqb _ _ c.if-n-ne0.false) lists_none
