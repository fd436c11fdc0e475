use mathlib.Core.Path.{refl}
use native.Mathlib.Omega.{arith}
use Rattle.text.proofs.Digits.{decimal_one, rest_none, rest_more, rest_all, low_log, log_length}
use Rattle.text.proofs.decimal.put_number.Goals as goal

pub put_byte-requires : goal.put_byte-requires
put_byte-requires c = rw (decimal_one c.args.n c.if-n-lt10.true) at c.requires

pub returns-then-n-lt10 : goal.returns-then-n-lt10
returns-then-n-lt10 c = rw (decimal_one c.args.n c.if-n-lt10.true) c.put_byte.ensures

pub loop-i-init : goal.loop-i-init
loop-i-init c = let e = c.ilog10.ensures in rest_none _ _ _ c.ilog10.result _ refl (low_log c.args.n c.ilog10.result e.power_le e.next_power_gt)

pub bounds-out-i : goal.bounds-out-i
bounds-out-i c = let e = c.ilog10.ensures in omega (arith, log_length c.args.n c.ilog10.result e.power_le e.next_power_gt)

pub loop-i-preserved : goal.loop-i-preserved
loop-i-preserved c = rest_more c.loop-i-test.true c.loop-i.invariant

pub returns : goal.returns
returns c =
    let e = c.ilog10.ensures in
    record {
      bytes = rest_all c.loop-i-test.false c.loop-i.invariant;
      place = omega (arith, log_length c.args.n c.ilog10.result e.power_le e.next_power_gt);
    }
