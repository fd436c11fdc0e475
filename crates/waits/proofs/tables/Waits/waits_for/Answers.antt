use mathlib.Core.Path.{sym, ◌∙◌}
use Rattle.waits.specs.Owners.{waits_for}
use Rattle.sets.specs.Lists.{among}
use Rattle.waits.proofs.Masks.{last_is, last_not, among_last, among_other}
use Rattle.waits.proofs.tables.Waits.waits_for.Goals as goal

pub returns-in_default : goal.returns-in_default
unfolding waits_for among
returns-in_default c = rw c.in_default.is

pub returns-then-eq : goal.returns-then-eq
unfolding waits_for
returns-then-eq c =
    let o = c.incompatible_owners-owners in
    rw (c.in-Some.is, ← o.ensures.0) (sym (among_last _ _ c.requires.1 _ (last_is o.result.last c.args.u (sym c.eq.ensures ∙ c.if-eq.true))))

pub returns : goal.returns
unfolding waits_for
returns c =
    let o = c.incompatible_owners-owners in
    rw (c.in-Some.is, ← o.ensures.0)
    (c.has.ensures ∙ sym (among_other _ _ c.requires.1 _ (last_not o.result.last c.args.u (sym c.eq.ensures ∙ c.if-eq.false))))
