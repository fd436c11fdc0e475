use mathlib.Core.Path.{◌∙◌}
use Rattle.script.proofs.Steps.{line_long, line_word, line_fields}
use Rattle.script.proofs.line.read_line.Goals as goal

pub returns-then-line-gt40 : goal.returns-then-line-gt40
returns-then-line-gt40 c = line_long _ c.if-line-gt40.true

pub returns-then-e-line : goal.returns-then-e-line
returns-then-e-line c = c.after_word.ensures ∙ line_fields _ _ c.field-w.ensures c.if-line-gt40.false c.if-e-line.true

pub returns : goal.returns
returns c = line_word _ _ c.field-w.ensures c.if-line-gt40.false c.if-e-line.false
