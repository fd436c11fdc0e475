use mathlib.Core.Path.{refl}
use Rattle.waits.specs.Waiting.{renew}
use Rattle.waits.proofs.tables.Waits.renew.Goals as goal

pub returns-in_err-i : goal.returns-in_err-i
unfolding renew
returns-in_err-i c = (rw (c.from_residual.ensures, c.in_err-i.was), refl)

pub returns : goal.returns
unfolding renew
returns c = (rw (c.in_ok-i.was, ← c.incompatible_owners-owners.ensures.0) c.relink.ensures, refl)
