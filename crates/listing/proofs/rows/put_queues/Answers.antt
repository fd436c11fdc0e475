use borrow.Author.Rules.{rules}
use mathlib.Core.List.{map}
use mathlib.Core.Path.{refl}
use Prim.Native.Nat.{◌<◌, ◌≤◌}
use native.Mathlib.Omega.{arith}
use lib.ListN.{length, length-map}
use Rattle.detector.specs.State.{pairs_of}
use Rattle.listing.specs.Listing.{queues_items}
use Rattle.listing.proofs.Items.{partly_on, partly_start, partly_room, partly_more, partly_all, begun_from, table_room, close_room, closed, lent, queues_more, along_none}
use Rattle.listing.proofs.rows.put_queues.Goals as goal

pub loop-c-init : goal.loop-c-init
unfolding queues_items
loop-c-init c = partly_start _ _ refl (begun_from c.begin-line.ensures.begun) (table_room c.begin-line.ensures.begun c.requires.1)

pub queue-requires : goal.queue-requires
queue-requires c =
    let h : c.loop-c.c < length (map pairs_of c.args.queues.now) = omega (arith, length-map c.args.queues.now pairs_of) in
    (partly_on c.loop-c.invariant, c.requires.0 _ (omega arith), partly_room c.loop-c.invariant _ (queues_more c.args.queues.now _ _ h))

pub loop-c-preserved : goal.loop-c-preserved
loop-c-preserved c =
    let h : c.loop-c.c < length (map pairs_of c.args.queues.now) = omega (arith, length-map c.args.queues.now pairs_of) in
    partly_more c.loop-c.invariant (queues_more c.args.queues.now _ _ h) c.queue.ensures

pub close-requires : goal.close-requires
close-requires c =
    let h : length (map pairs_of c.args.queues.now) ≤ c.loop-c.c = omega (arith, length-map c.args.queues.now pairs_of) in
    close_room c.begin-line.ensures.begun (partly_all c.loop-c.invariant (along_none _ _ _ h)) c.requires.1

pub returns : goal.returns
returns c =
    let h : length (map pairs_of c.args.queues.now) ≤ c.loop-c.c = omega (arith, length-map c.args.queues.now pairs_of) in
    lent (search rules) (closed c.begin-line.ensures.begun (partly_all c.loop-c.invariant (along_none _ _ _ h)) c.close.ensures)
