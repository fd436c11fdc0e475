use lib.Seq.{length-take-le}
use Rattle.transcript.proofs.Carry.{kept_line}
use borrow.Author.Rules.{rules}
use mathlib.Core.Path.{sym, ◌∙◌}
use native.Mathlib.Omega.{arith}
use Rattle.transcript.proofs.lines.line_of.Goals as goal

pub read_line-requires : goal.read_line-requires
read_line-requires c = search rules

pub returns-then-have-eq0 : goal.returns-then-have-eq0
returns-then-have-eq0 c = rw c.if-have-eq0.true c.read_line.ensures

pub keep-h-requires : goal.keep-h-requires
keep-h-requires c = search rules

pub slice_bounds-read_line-end : goal.slice_bounds-read_line-end
slice_bounds-read_line-end c = search rules

pub slice_bounds-read_line-end-2 : goal.slice_bounds-read_line-end-2
slice_bounds-read_line-end-2 c = sym (length-take-le _ _ (omega (arith, c.keep-h.ensures.0)))

pub read_line-requires-2 : goal.read_line-requires-2
read_line-requires-2 c = search rules

pub returns : goal.returns
returns c = c.read_line-2.ensures ∙ kept_line _ _ c.keep-h.ensures.1
