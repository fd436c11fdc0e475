use Rattle.sets.proofs.Digits.{with_or, with_lt, one_shl}
use native.Mathlib.Omega.{arith}
use Rattle.sets.proofs.set.Set.with.Goals as goal

pub narrow-requires : goal.narrow-requires
narrow-requires g c =
    rw (one_shl 64 c.args.i (omega (arith, g.met.Self.Set.fits)), with_or)
    (with_lt g.Self.Set.SIZE _ c.args.i c.wide.ensures.1 c.requires)

pub returns : goal.returns
returns g c =
    rw (c.narrow.ensures, one_shl 64 c.args.i (omega (arith, g.met.Self.Set.fits)), with_or, c.wide.ensures.0)
