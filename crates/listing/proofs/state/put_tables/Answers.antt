use Rattle.listing.proofs.Bounds.{tables_bound}
use native.Mathlib.Omega.{arith}
use Rattle.listing.proofs.state.put_tables.Goals as goal

pub put_all-requires : goal.put_all-requires
put_all-requires c = (c.requires.0, record { fits = omega (arith, tables_bound c.args.d.now c.requires.0 c.typed.ensures) })

pub returns : goal.returns
returns c = (c.put_all.ensures, omega (arith, tables_bound c.args.d.now c.requires.0 c.typed.ensures, c.put_all.ensures.place))
