use mathlib.Core.Path.{sym, ◌∙◌}
use Prim.Native.Nat.{◌≤◌}
use borrow.Author.Rules.{rules}
use native.Mathlib.Omega.{arith}
use lib.ListN.{get_or}
use Rattle.text.proofs.Numbers.{number_one, number_more, digit_bad, digit_on, digits_end, grows}
use Rattle.text.proofs.number.read_number.Goals as goal
use Rattle.text.proofs.number.read_number.Goals.{in_default, in_default-2}

pub loop-b-init : goal.loop-b-init
loop-b-init c =
    elim c.if-s-lt2.branch [
      | in_default w ↦ (omega arith, omega arith, number_one _ (omega arith) (omega arith))
      | in_default-2 w ↦ (omega arith, omega arith, number_more _ (omega arith) (omega arith) (λ e. omega arith))
    ]

pub returns-then-not-is_ascii_digit : goal.returns-then-not-is_ascii_digit
returns-then-not-is_ascii_digit c = digit_bad _ _ _ c.loop-b-test.true c.if-not-is_ascii_digit.ensures.cases ∙ c.loop-b.invariant.2

pub loop-b-preserved : goal.loop-b-preserved
loop-b-preserved c =
    let d : (48 ≤ get_or c.args.s.now c.loop-b.b-index 0) × (get_or c.args.s.now c.loop-b.b-index 0 ≤ 57) = search rules in (
      c.loop-b.invariant.0,
      grows _ _ _ (omega arith) c.loop-b.invariant.1 (omega arith),
      rw c.from.ensures (sym (digit_on _ _ _ c.loop-b-test.true d.0 d.1) ∙ c.loop-b.invariant.2),
    )

pub returns : goal.returns
returns c = digits_end _ _ _ c.loop-b-test.false ∙ c.loop-b.invariant.2
