use mathlib.Core.List.{map-id}
use Rattle.text.proofs.Puts.{then, room_then, room_first}
use Rattle.listing.specs.Listing.{mutexes_text}
use Rattle.listing.proofs.state.put_mutexes.Goals as goal

pub put_sets-a-requires : goal.put_sets-a-requires
unfolding mutexes_text
put_sets-a-requires c = rw map-id (room_first _ c.requires)

pub put_owners-requires : goal.put_owners-requires
unfolding mutexes_text
put_owners-requires c = room_then (rw map-id at c.put_sets-a.ensures) c.requires

pub returns : goal.returns
unfolding mutexes_text
returns c = then (rw map-id at c.put_sets-a.ensures) c.put_owners.ensures
