use Rattle.std.proofs.Common.{rules, sym}
use mathlib.Core.Path.{◌∙◌}
use native.Mathlib.Omega.{arith}
use Rattle.sets.proofs.Walk.{upward_zero, walk_step, walk_lt}
use Rattle.sets.proofs.upward.UpwardIterator.next.Goals as goal

pub returns-then-mask-eq0-clause-steps : goal.returns-then-mask-eq0-clause-steps
returns-then-mask-eq0-clause-steps g c =
    let z = sym c.wide-mask.ensures.0 ∙ c.if-mask-eq0.true in
    rw z (upward_zero _ 0, upward_zero _ 0)

pub narrow-self-requires : goal.narrow-self-requires
narrow-self-requires g c = walk_lt _ _ (omega (arith, c.if-mask-eq0.false)) c.wide-mask.ensures.1

pub returns-clause-steps : goal.returns-clause-steps
returns-clause-steps g c =
    rw (← c.wide-mask.ensures.0, c.narrow-self.ensures)
    (walk_step _ _ g.met.S.Set.fits (omega (arith, c.if-mask-eq0.false)) c.wide-mask.ensures.1)

pub returns-clause-goes : goal.returns-clause-goes
returns-clause-goes g c = let e = returns-clause-steps g c in search rules
