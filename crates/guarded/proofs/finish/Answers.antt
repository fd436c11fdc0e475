use mathlib.Core.Path.{refl, sym, ◌∙◌}
use mathlib.Core.Bool.{false≢true}
use Rattle.guarded.proofs.finish.Goals as goal

pub finish_within-requires : goal.finish_within-requires
finish_within-requires c = c.may_end.ensures.1 c.if-may_end.true

pub returns-then-may_end : goal.returns-then-may_end
returns-then-may_end c =
    let t = sym c.may_end.ensures.0 ∙ c.if-may_end.true in
    record { ended = λ e. c.finish_within.ensures.0; refused = λ e. absurd (false≢true (sym e ∙ t)) }

pub returns-else-may_end : goal.returns-else-may_end
returns-else-may_end c =
    let t = sym c.may_end.ensures.0 ∙ c.if-may_end.false in
    record { ended = λ e. absurd (false≢true (sym t ∙ e)); refused = λ e. (refl, refl) }
