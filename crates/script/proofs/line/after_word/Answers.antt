use mathlib.Core.Path.{sym, ◌∙◌}
use Rattle.script.proofs.Steps.{word_bad, word_more, word_last}
use Rattle.script.proofs.line.after_word.Goals as goal

pub returns-in_err-a : goal.returns-in_err-a
returns-in_err-a c = c.from_residual.ensures ∙ word_bad _ _ _ _ c.field-f.ensures 0 (sym c.read_number.ensures ∙ c.in_err-a.was)

pub returns-then-e-line : goal.returns-then-e-line
returns-then-e-line c = c.after_one.ensures ∙ word_more _ _ _ _ c.field-f.ensures _ (sym c.read_number.ensures ∙ c.in_ok-a.was) c.if-e-line.true

pub returns : goal.returns
returns c = c.one.ensures ∙ word_last _ _ _ _ c.field-f.ensures _ (sym c.read_number.ensures ∙ c.in_ok-a.was) c.requires c.if-e-line.false
