use Rattle.sets.proofs.Digits.{without_and, without_le, one_shl}
use Rattle.std.proofs.Common.{◌<◌}
use native.Mathlib.Omega.{arith}
use Rattle.sets.proofs.set.Set.without.Goals as goal

pub narrow-requires : goal.narrow-requires
narrow-requires g c =
    let l : c.args.i < 64 = omega (arith, g.met.Self.Set.fits) in
    rw (one_shl 64 c.args.i l, without_and 64 _ c.args.i c.wide.type_inv l)
    (omega (arith, c.wide.ensures.1, without_le c.wide.result c.args.i))

pub returns : goal.returns
returns g c =
    let l : c.args.i < 64 = omega (arith, g.met.Self.Set.fits) in
    rw (c.narrow.ensures, one_shl 64 c.args.i l, without_and 64 _ c.args.i c.wide.type_inv l, c.wide.ensures.0)
