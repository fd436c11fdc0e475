use Rattle.detector.proofs.Queues.{first_small, others_small, left_room}
use Rattle.detector.specs.Code.{tail_of}
use Rattle.std.specs.Prelude.{slice_get}
use Rattle.std.proofs.lemmas.List.{take_all}
use mathlib.Core.Path.{sym, ap, ◌∙◌}
use native.Mathlib.Omega.{arith}
use Rattle.detector.proofs.state.Queue.pop.Goals as goal

pub push-requires : goal.push-requires
push-requires c =
    let q = c.args.self.now in
    let l = c.loop-pair in
    let e = sym c.pairs.ensures ∙ c.in_ok-first.ensures.cases.0 in
    let s = others_small q c.requires _ _ e l.pair-index c.loop-pair-test.true in
    (l.invariant.1, left_room q c.requires _ _ e l.left l.pair-index l.invariant.1 l.invariant.0 c.loop-pair-test.true, s.0, s.1)

pub returns : goal.returns
returns c =
    let q = c.args.self.now in
    let l = c.loop-pair in
    let e = sym c.pairs.ensures ∙ c.in_ok-first.ensures.cases.0 in
    let s = first_small q c.requires _ _ e in
    (sym (ap (λ ps. slice_get ps 0) e), l.invariant.0 ∙ take_all l.pair-index _ (omega arith) ∙ sym (ap tail_of e), l.invariant.1, s)
