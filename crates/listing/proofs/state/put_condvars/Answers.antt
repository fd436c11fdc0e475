use Rattle.text.proofs.Puts.{then, room_then, room_first}
use Rattle.listing.specs.Listing.{condvars_text}
use Rattle.listing.proofs.state.put_condvars.Goals as goal

pub put_queues-a-requires : goal.put_queues-a-requires
unfolding condvars_text
put_queues-a-requires c = (c.requires.0, room_first _ c.requires.1)

pub put_members-requires : goal.put_members-requires
unfolding condvars_text
put_members-requires c = room_then c.put_queues-a.ensures c.requires.1

pub returns : goal.returns
unfolding condvars_text
returns c = then c.put_queues-a.ensures c.put_members.ensures
