use Rattle.detector.proofs.Serving.{refuse, renumber, tested, untested}
use Rattle.detector.specs.declared.refused.Refusal.TheVariants.{State}
use mathlib.Core.Path.{sym, ◌∙◌}
use Rattle.detector.proofs.state.Detector.step.Goals as goal

pub returns-then-not-is_valid : goal.returns-then-not-is_valid
returns-then-not-is_valid c =
    let a = c.args in
    renumber (untested a.self.now _ a.e (sym c.is_valid.ensures.0 ∙ c.if-not-is_valid.true)) (refuse a.self.now a.e State a.buf.now)

pub returns : goal.returns
returns c =
    renumber (tested c.args.self.now _ c.args.e (sym c.is_valid.ensures.0 ∙ c.if-not-is_valid.false)) c.step_within.ensures
