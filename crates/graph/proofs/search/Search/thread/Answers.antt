use Prim.Native.Nat.{◌<◌}
use mathlib.Core.Path.{◌≡◌, sym, ap, ◌∙◌}
use lib.ListN.{length, get_or, take}
use Rattle.std.specs.Prelude.{Some}
use Rattle.std.proofs.lemmas.Option.{slice_get-get_or}
use Rattle.graph.specs.Code.{trail_of}
use Rattle.graph.proofs.Trails.{found_count, thread_at}
use Rattle.graph.proofs.search.Search.thread.Goals as goal

pub returns : goal.returns
returns c =
    let i = c.self.inside in
    let p = c.args.place in
    let l = c.in_ok-found.ensures.lookup in
    let fs = take i.count i.found in
    let h : p < length (trail_of fs i.seen).threads = rw (found_count fs i.seen) l.3.0 in
    let t : get_or (trail_of fs i.seen).threads p 0 ≡ c.from.result =
    thread_at fs i.seen p
    ∙ ap (λ f. f.thread) (sym (l.3.1 (record { thread = 0; parent = 0 })))
    ∙ sym c.from.ensures
    in
    rw (← c.self.view_is) (ap Some (sym t) ∙ sym (slice_get-get_or _ p 0 h), (rw t at (c.self.invariant.2.small p), h))
