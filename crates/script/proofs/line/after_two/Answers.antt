use mathlib.Core.Path.{sym, ◌∙◌}
use Rattle.script.proofs.Steps.{two_many, two_bad, two_is}
use Rattle.script.proofs.line.after_two.Goals as goal

pub returns-then-at-f : goal.returns-then-at-f
returns-then-at-f c = two_many _ _ _ _ c.field-f.ensures _ _ c.if-at-f.true

pub returns-in_err-read_outcome : goal.returns-in_err-read_outcome
returns-in_err-read_outcome c = c.from_residual.ensures ∙ two_bad _ _ _ _ c.field-f.ensures _ _ (sym c.read_outcome.ensures ∙ c.in_err-read_outcome.was) c.requires c.if-at-f.false

pub returns : goal.returns
returns c = c.three.ensures ∙ two_is _ _ _ _ c.field-f.ensures _ _ _ (sym c.read_outcome.ensures ∙ c.in_ok-read_outcome.was) c.requires c.if-at-f.false
