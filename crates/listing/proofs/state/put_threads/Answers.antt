use mathlib.Core.List.{map-id}
use Rattle.text.proofs.Puts.{then, room_then, room_first}
use Rattle.listing.specs.Listing.{threads_text}
use Rattle.listing.proofs.state.put_threads.Goals as goal

pub put_sets-a-requires : goal.put_sets-a-requires
unfolding threads_text
put_sets-a-requires c = rw map-id (room_first _ c.requires)

pub put_cv_waits-b-requires : goal.put_cv_waits-b-requires
unfolding threads_text
put_cv_waits-b-requires c = room_first _ (room_then (rw map-id at c.put_sets-a.ensures) c.requires)

pub put_intents-requires : goal.put_intents-requires
unfolding threads_text
put_intents-requires c = room_then c.put_cv_waits-b.ensures (room_then (rw map-id at c.put_sets-a.ensures) c.requires)

pub returns : goal.returns
unfolding threads_text
returns c = then (rw map-id at c.put_sets-a.ensures) (then c.put_cv_waits-b.ensures c.put_intents.ensures)
