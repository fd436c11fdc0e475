use mathlib.Core.Path.{sym, ◌∙◌}
use Rattle.script.proofs.Steps.{one_bad, one_more, one_last}
use Rattle.script.proofs.line.after_one.Goals as goal

pub returns-in_err-b : goal.returns-in_err-b
returns-in_err-b c = c.from_residual.ensures ∙ one_bad _ _ _ _ c.field-f.ensures _ 0 (sym c.read_number.ensures ∙ c.in_err-b.was)

pub returns-then-e-line : goal.returns-then-e-line
returns-then-e-line c = c.after_two.ensures ∙ one_more _ _ _ _ c.field-f.ensures _ _ (sym c.read_number.ensures ∙ c.in_ok-b.was) c.if-e-line.true

pub returns : goal.returns
returns c = c.two.ensures ∙ one_last _ _ _ _ c.field-f.ensures _ _ (sym c.read_number.ensures ∙ c.in_ok-b.was) c.requires c.if-e-line.false
