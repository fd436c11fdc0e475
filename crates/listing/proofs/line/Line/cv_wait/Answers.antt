use borrow.Author.Tests.{eq-eqb}
use Rattle.listing.proofs.Items.{lists_none}
use Rattle.listing.proofs.line.Line.cv_wait.Goals as goal

pub returns-else-v-ne-NONE : goal.returns-else-v-ne-NONE
returns-else-v-ne-NONE c = rw (eq-eqb _ _ c.if-v-ne-NONE.false) lists_none
