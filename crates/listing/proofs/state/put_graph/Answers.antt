use mathlib.Core.List.{map-id}
use Rattle.text.proofs.Puts.{then, room_then, room_first}
use Rattle.listing.specs.Listing.{graph_text}
use Rattle.listing.proofs.state.put_graph.Goals as goal

pub put_sets-a-requires : goal.put_sets-a-requires
unfolding graph_text
put_sets-a-requires c = rw map-id (room_first _ c.requires)

pub put_sets-requires : goal.put_sets-requires
unfolding graph_text
put_sets-requires c = rw map-id (room_then (rw map-id at c.put_sets-a.ensures) c.requires)

pub returns : goal.returns
unfolding graph_text
returns c = then (rw map-id at c.put_sets-a.ensures) (rw map-id at c.put_sets.ensures)
