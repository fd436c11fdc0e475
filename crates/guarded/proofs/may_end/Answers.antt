use mathlib.Core.Path.{sym, ◌∙◌}
use Rattle.guarded.specs.Promises.{end_test}
use mathlib.Core.Logic.{inl, inr}
use borrow.Author.Rules.{rules}
use mathlib.Core.Bool.{false≢true}
use native.Mathlib.Omega.{arith}
use borrow.Author.Tests.{eq-eqb, ne_eqb, lt-ltb, le-ltb}
use Rattle.guarded.proofs.may_end.Goals as goal

pub returns-then-out-at : goal.returns-then-out-at
unfolding end_test
returns-then-out-at c = (rw (lt-ltb _ _ c.if-out-at.true), λ e. absurd (false≢true e))

pub returns-then-out-at-lt-END_BYTES : goal.returns-then-out-at-lt-END_BYTES
unfolding end_test
returns-then-out-at-lt-END_BYTES c = (rw (le-ltb _ _ c.if-out-at.false, lt-ltb _ _ c.if-out-at-lt-END_BYTES.true), λ e. absurd (false≢true e))

pub is_run-requires : goal.is_run-requires
is_run-requires c = search rules

pub returns-then-run-eq0 : goal.returns-then-run-eq0
unfolding end_test
returns-then-run-eq0 c =
    let p = c.if-out-at.false in
    let q = c.if-out-at-lt-END_BYTES.false in
    let n = c.if-run-eq0.true in (
      rw (le-ltb _ _ p, le-ltb _ _ q, eq-eqb _ _ n) c.is_run.ensures.0,
      λ e. record { kept = c.is_run.ensures.1 e; closed = inl n; place = omega (arith, p, q) },
    )

pub is_run-requires-then-run-eq-LIMIT : goal.is_run-requires-then-run-eq-LIMIT
is_run-requires-then-run-eq-LIMIT c = search rules

pub returns-then-run-eq-LIMIT : goal.returns-then-run-eq-LIMIT
unfolding end_test
returns-then-run-eq-LIMIT c =
    let p = c.if-out-at.false in
    let q = c.if-out-at-lt-END_BYTES.false in
    let n = c.if-run-eq-LIMIT.true in (
      rw (le-ltb _ _ p, le-ltb _ _ q, ne_eqb _ _ c.if-run-eq0.false, eq-eqb _ _ n) c.is_run-then-run-eq-LIMIT.ensures.0,
      λ e. record { kept = c.is_run-then-run-eq-LIMIT.ensures.1 e; closed = inr n; place = omega (arith, p, q) },
    )

pub returns-else-run-eq-LIMIT : goal.returns-else-run-eq-LIMIT
unfolding end_test
returns-else-run-eq-LIMIT c = (rw (le-ltb _ _ c.if-out-at.false, le-ltb _ _ c.if-out-at-lt-END_BYTES.false, ne_eqb _ _ c.if-run-eq0.false, ne_eqb _ _ c.if-run-eq-LIMIT.false), λ e. absurd (false≢true (sym (ne_eqb _ _ c.if-run-eq-LIMIT.false) ∙ e)))
