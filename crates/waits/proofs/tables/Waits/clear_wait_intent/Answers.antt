use Rattle.waits.specs.Waiting.{clear}
use Rattle.waits.proofs.Laws.{range_clear}
use Rattle.waits.proofs.Steps.{pack}
use Rattle.waits.proofs.tables.Waits.clear_wait_intent.Goals as goal

pub returns : goal.returns
unfolding clear
returns c = pack (rw (c.clear_wait_edges.ensures, c.forget_intent.ensures)) (range_clear _ _ c.requires.1)
