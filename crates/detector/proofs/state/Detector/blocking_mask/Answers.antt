use Rattle.detector.proofs.StuckLaws.{mask_last, mask_none}
use Rattle.detector.specs.Stuck.{mask_of}
use Rattle.waits.specs.Owners.{blocking}
use borrow.Author.Rules.{rules}
use mathlib.Core.Path.{sym, ap, ◌∙◌}
use Prim.Native.Nat.{◌<◌, ◌^◌}
use Rattle.detector.proofs.state.Detector.blocking_mask.Goals as goal

pub returns-in-Some-last : goal.returns-in-Some-last
returns-in-Some-last c =
    let d = c.args.self.now in
    let o = c.incompatible_owners-owners in
    let h : o.result.readers < 2 ^ 32 = search rules in
    c.with.ensures
    ∙ mask_last _ _ _ h o.ensures.0 _ c.in-Some-last.is
    ∙ ap (λ i. mask_of (blocking d.rwlock_readers d.waits i)) (sym c.in-Some.is)

pub returns-in-None : goal.returns-in-None
returns-in-None c =
    let d = c.args.self.now in
    let o = c.incompatible_owners-owners in
    let h : o.result.readers < 2 ^ 32 = search rules in
    mask_none _ _ _ h o.ensures.0 c.in-None.is ∙ ap (λ i. mask_of (blocking d.rwlock_readers d.waits i)) (sym c.in-Some.is)
