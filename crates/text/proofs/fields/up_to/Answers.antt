use native.Mathlib.Omega.{arith}
use lib.ListN.{drop}
use Rattle.std.proofs.lemmas.Grind.{common_steps}
use Rattle.std.proofs.lemmas.List.{take_rest}
use Rattle.text.proofs.Cut.{up_to_found}
use Rattle.text.proofs.fields.up_to.Goals as goal

pub returns : goal.returns
returns c = grind (arith, common_steps, up_to_found c.args.d (drop c.args.a c.args.text.now) c.first.result (rw take_rest at c.first.ensures))
