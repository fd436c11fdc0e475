use Prim.Native.Nat.{◌<◌, ◌+◌, ◌-◌}
use mathlib.Core.List.{[], ◌∷◌, reverse}
use mathlib.Core.Path.{◌≡◌, sym, ◌∙◌}
use lib.ListN.{length, get_or, length-append}
use native.Mathlib.Omega.{arith}
use Rattle.std.proofs.lemmas.List.{reverse-append}
use Rattle.graph.proofs.Trails.{found_length, found_thread, found_parent, path_end, path_step}
use Rattle.graph.proofs.search.Search.path_to.Goals as goal

pub push-requires : goal.push-requires
push-requires c =
    let i = c.self.inside in
    let l = c.loop-k in
    (omega arith, rw (← found_thread i.found i.count i.seen l.k l.invariant.1) (c.self.invariant.2.small l.k))

pub loop-k-smaller : goal.loop-k-smaller
loop-k-smaller c =
    let i = c.self.inside in
    let l = c.loop-k in
    let h = c.self.invariant in
    rw (c.from-k.ensures, ← found_parent i.found i.count i.seen l.k l.invariant.1)
    (h.2.earlier l.k (omega (arith, c.loop-k-test.true)) (omega (arith, l.invariant.1, found_length i.found i.count i.seen h.0 h.1)))

pub loop-k-preserved : goal.loop-k-preserved
loop-k-preserved c =
    let i = c.self.inside in
    let l = c.loop-k in
    let d = loop-k-smaller c in
    let n : length c.push.new.self ≡ length l.path + 1 = rw c.push.ensures (omega (arith, length-append l.path ((get_or i.found l.k (record { thread = 0; parent = 0 })).thread ∷ []))) in
    let f : 31 - (length l.path + 1) ≡ 31 - length l.path - 1 = omega arith in (
      omega arith,
      omega arith,
      rw (n, f, c.push.ensures, reverse-append, ← found_thread i.found i.count i.seen l.k l.invariant.1, c.from-k.ensures, ← found_parent i.found i.count i.seen l.k l.invariant.1)
          (sym (path_step (31 - length l.path) _ l.k (reverse l.path) (omega (arith, c.loop-k-test.true)) (omega (arith, c.loop-k-test.true))) ∙ l.invariant.2),
    )

pub push-requires-2 : goal.push-requires-2
push-requires-2 c =
    let i = c.self.inside in
    let l = c.loop-k in
    let p : 0 < i.count = omega (arith, l.invariant.1) in
    (omega arith, rw (← found_thread i.found i.count i.seen 0 p) (c.self.invariant.2.small 0))

pub returns : goal.returns
returns c =
    let i = c.self.inside in
    let l = c.loop-k in
    let p : 0 < i.count = omega (arith, l.invariant.1) in
    rw (c.reverse.ensures, c.push-2.ensures, reverse-append, ← found_thread i.found i.count i.seen 0 p, ← c.self.view_is)
    (sym (path_end (31 - length l.path) _ (reverse l.path)) ∙ (rw c.loop-k-test.false at l.invariant.2))
