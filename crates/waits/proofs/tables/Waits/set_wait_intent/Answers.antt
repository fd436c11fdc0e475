use Rattle.waits.specs.Waiting.{set_intent}
use Rattle.waits.proofs.Laws.{range_set}
use Rattle.waits.proofs.Steps.{pack}
use Rattle.waits.proofs.tables.Waits.set_wait_intent.Goals as goal

pub returns : goal.returns
unfolding set_intent
returns c = pack (rw (c.with.ensures, c.from-l.ensures, c.clear_wait_intent.ensures.0)) (range_set _ _ _ c.requires.2 c.requires.1)
