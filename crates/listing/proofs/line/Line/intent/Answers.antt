use Rattle.listing.proofs.Items.{lists_none}
use Rattle.listing.proofs.line.Line.intent.Goals as goal

pub returns-in_default : goal.returns-in_default
returns-in_default c = rw c.in_default.is lists_none
