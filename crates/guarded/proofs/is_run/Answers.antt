use mathlib.Core.Path.{sym, ◌∙◌}
use Rattle.guarded.specs.Promises.{run_test}
use borrow.Author.Rules.{rules}
use mathlib.Core.Bool.{false≢true}
use borrow.Author.Tests.{eq-eqb, ne_eqb, lt-ltb, le-ltb}
use Rattle.guarded.proofs.is_run.Goals as goal

pub returns-then-run-gt-LIMIT : goal.returns-then-run-gt-LIMIT
unfolding run_test
returns-then-run-gt-LIMIT c = (rw (lt-ltb _ _ c.if-run-gt-LIMIT.true), λ e. absurd (false≢true e))

pub returns-then-run-gt-CARRY_BYTES : goal.returns-then-run-gt-CARRY_BYTES
unfolding run_test
returns-then-run-gt-CARRY_BYTES c = (rw (le-ltb _ _ c.if-run-gt-LIMIT.false, lt-ltb _ _ c.if-run-gt-CARRY_BYTES.true), λ e. absurd (false≢true e))

pub is_valid-requires : goal.is_valid-requires
is_valid-requires c = search rules

pub returns-then-carry-eq-CARRY_BYTES : goal.returns-then-carry-eq-CARRY_BYTES
unfolding run_test
returns-then-carry-eq-CARRY_BYTES c =
    let a = c.if-run-gt-LIMIT.false in
    let h = c.if-run-gt-CARRY_BYTES.false in
    let n = c.if-carry-eq-CARRY_BYTES.true in (
      rw (le-ltb _ _ a, le-ltb _ _ h, eq-eqb _ _ n) c.is_valid.ensures.0,
      λ e. record { valid = c.is_valid.ensures.1 e; lines = a; have = h; long = n },
    )

pub returns-else-carry-eq-CARRY_BYTES : goal.returns-else-carry-eq-CARRY_BYTES
unfolding run_test
returns-else-carry-eq-CARRY_BYTES c = (rw (le-ltb _ _ c.if-run-gt-LIMIT.false, le-ltb _ _ c.if-run-gt-CARRY_BYTES.false, ne_eqb _ _ c.if-carry-eq-CARRY_BYTES.false), λ e. absurd (false≢true (sym (ne_eqb _ _ c.if-carry-eq-CARRY_BYTES.false) ∙ e)))
