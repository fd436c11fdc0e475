use Rattle.detector.proofs.Numbers.{inside, inside_next, outside_first}
use Rattle.detector.proofs.Serving.{number_above}
use Rattle.detector.specs.State.{tables}
use Rattle.detector.specs.Numbered.{refused_by}
use Rattle.detector.specs.Refusals.{refusal, full, numbers_of}
use Rattle.std.specs.Prelude.{Err}
use borrow.Author.Rules.{rules}
use mathlib.Core.Path.{◌≡◌, sym, ap, ◌∙◌}
use Rattle.detector.proofs.state.Detector.refusal.Goals as goal

pub returns-in_err-numbered : goal.returns-in_err-numbered
unfolding refusal
returns-in_err-numbered c =
    let a = c.args in
    let r = c.in_err-numbered.field-0.0 in
    let k : c.from_residual.result ≡ Err r = search rules in
    let e = c.in_err-numbered.ensures {u = tt} in
    ap refused_by k ∙ e ∙ sym (outside_first (numbers_of a.e) a.room (full (tables a.self.now) a.e) (rw (← e) (number_above r)))

pub full-requires : goal.full-requires
full-requires c = (c.requires, inside (numbers_of c.args.e) c.args.room (sym (c.in_ok-numbered.ensures {u = tt})))

pub returns : goal.returns
unfolding refusal
returns c =
    let a = c.args in
    let i = inside (numbers_of a.e) a.room (sym (c.in_ok-numbered.ensures {u = tt})) in
    c.full.ensures ∙ sym (inside_next (numbers_of a.e) a.room (full (tables a.self.now) a.e) i)
