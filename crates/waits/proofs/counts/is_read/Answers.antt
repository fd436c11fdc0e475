use Rattle.waits.proofs.Masks.{read_mask}
use Rattle.waits.proofs.counts.is_read.Goals as goal

pub returns : goal.returns
returns c = read_mask _ _ _ c.reader_mask.ensures c.reader_mask.type_inv
