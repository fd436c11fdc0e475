use mathlib.Core.Path.{ap, ◌∙◌}
use Rattle.waits.specs.Waiting.{linking, register}
use Rattle.waits.proofs.Laws.{range_register}
use Rattle.waits.proofs.Steps.{pack_linked}
use Rattle.waits.proofs.tables.Waits.register_wait.Goals as goal

pub returns : goal.returns
unfolding register
returns c =
    let w = c.set_wait_intent.ensures.0 in
    let o = c.incompatible_owners-owners.ensures.0 in
    pack_linked
    (ap (linking c.set_wait_intent.new.self) c.add_owners.ensures ∙ rw (o, w))
    (range_register _ _ _ _ c.requires.2 c.requires.1)
