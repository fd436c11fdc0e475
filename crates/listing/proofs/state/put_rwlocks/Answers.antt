use Rattle.text.proofs.Puts.{then, room_then, room_first}
use Rattle.listing.specs.Listing.{rwlocks_text}
use borrow.Author.Rules.{rules}
use Rattle.listing.proofs.state.put_rwlocks.Goals as goal

pub put_readers-a-requires : goal.put_readers-a-requires
unfolding rwlocks_text
put_readers-a-requires c = room_first _ c.requires

pub slice_bounds-put_owners-end-2 : goal.slice_bounds-put_owners-end-2
slice_bounds-put_owners-end-2 c = search rules

pub put_owners-requires : goal.put_owners-requires
unfolding rwlocks_text
put_owners-requires c = room_then c.put_readers-a.ensures c.requires

pub returns : goal.returns
unfolding rwlocks_text
returns c = then c.put_readers-a.ensures c.put_owners.ensures
