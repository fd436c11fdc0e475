use Rattle.text.proofs.Puts.{then, room_then, room_first}
use Rattle.listing.specs.Listing.{tables_text}
use Rattle.listing.proofs.state.put_all.Goals as goal

pub put_condvars-a-requires : goal.put_condvars-a-requires
unfolding tables_text
put_condvars-a-requires c = (c.requires.0.queues, room_first _ c.requires.1)

pub put_graph-b-requires : goal.put_graph-b-requires
unfolding tables_text
put_graph-b-requires c = room_first _ (room_then c.put_condvars-a.ensures c.requires.1)

pub put_mutexes-c-requires : goal.put_mutexes-c-requires
unfolding tables_text
put_mutexes-c-requires c = room_first _ (room_then c.put_graph-b.ensures (room_then c.put_condvars-a.ensures c.requires.1))

pub put_rwlocks-e-requires : goal.put_rwlocks-e-requires
unfolding tables_text
put_rwlocks-e-requires c = room_first _ (room_then c.put_mutexes-c.ensures (room_then c.put_graph-b.ensures (room_then c.put_condvars-a.ensures c.requires.1)))

pub put_threads-requires : goal.put_threads-requires
unfolding tables_text
put_threads-requires c = room_then c.put_rwlocks-e.ensures (room_then c.put_mutexes-c.ensures (room_then c.put_graph-b.ensures (room_then c.put_condvars-a.ensures c.requires.1)))

pub returns : goal.returns
unfolding tables_text
returns c = then c.put_condvars-a.ensures (then c.put_graph-b.ensures (then c.put_mutexes-c.ensures (then c.put_rwlocks-e.ensures c.put_threads.ensures)))
