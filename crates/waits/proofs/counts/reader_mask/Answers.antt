use mathlib.Core.Path.{◌≡◌, ap, ◌∙◌}
use Prim.Native.Nat.{ℕ, ◌<◌, ◌+◌, ◌-◌, ◌*◌}
use native.Mathlib.Omega.{arith}
use lib.ListN.{get_or, drop}
use borrow.Rule.Slice.PartMut.{mid_of}
use borrow.Author.Rules.{rules}
use Rattle.std.proofs.lemmas.List.{get_or-take, get_or-drop}
use Rattle.waits.specs.Counts.{count_of}
use Rattle.waits.proofs.Masks.{masked_none, masked_more, masked_same, masked_readers}
use Rattle.waits.proofs.counts.reader_mask.Goals.{then-count-ne0, else-count-ne0}
use Rattle.waits.proofs.counts.reader_mask.Goals as goal

pub loop-t-init : goal.loop-t-init
loop-t-init c = masked_none _ _

pub loop-t-preserved : goal.loop-t-preserved
loop-t-preserved c =
    let l = c.loop-t in
    let d = c.args.counts.now in
    let a = c.place-first.result in
    let h : l.t < 32 = search rules in
    let i : a + l.t ≡ c.args.lock * 32 + l.t = omega (arith, c.place-first.ensures.0) in
    let e : get_or (mid_of a (a + 32 - a) d) l.t 0 ≡ count_of d l.t c.args.lock =
    get_or-take (a + 32 - a) (drop a d) l.t 0 (omega arith) ∙ get_or-drop a d l.t 0 ∙ ap (λ (k : ℕ). get_or d k 0) i in
    elim c.if-count-ne0.branch [
      | then-count-ne0 w ↦ rw (w.readers-is, w.with-readers.ensures) (masked_more _ _ _ _ h l.invariant (rw e at w.if-count-ne0.true))
      | else-count-ne0 w ↦ rw w.readers-is (masked_same _ _ _ _ h l.invariant (rw e at w.if-count-ne0.false))
    ]

pub returns : goal.returns
returns c = let e : c.loop-t.t ≡ 32 = search rules in masked_readers _ _ _ (rw e at c.loop-t.invariant)
