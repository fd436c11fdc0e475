use mathlib.Core.Path.{sym, ◌∙◌}
use Rattle.guarded.specs.Promises.{feed_test}
use borrow.Author.Rules.{rules}
use mathlib.Core.Bool.{false≢true}
use borrow.Author.Tests.{eq-eqb, ne_eqb, lt-ltb, le-ltb}
use Rattle.guarded.proofs.may_feed.Goals as goal

pub returns-then-chunk-from : goal.returns-then-chunk-from
unfolding feed_test
returns-then-chunk-from c = (rw (lt-ltb _ _ c.if-chunk-from.true), λ e. absurd (false≢true e))

pub returns-then-out-at : goal.returns-then-out-at
unfolding feed_test
returns-then-out-at c = (rw (le-ltb _ _ c.if-chunk-from.false, lt-ltb _ _ c.if-out-at.true), λ e. absurd (false≢true e))

pub is_run-requires : goal.is_run-requires
is_run-requires c = search rules

pub returns-then-buf-eq-BUFFER_BYTES : goal.returns-then-buf-eq-BUFFER_BYTES
unfolding feed_test
returns-then-buf-eq-BUFFER_BYTES c =
    let f = c.if-chunk-from.false in
    let a = c.if-out-at.false in
    let n = c.if-buf-eq-BUFFER_BYTES.true in (
      rw (le-ltb _ _ f, le-ltb _ _ a, eq-eqb _ _ n) c.is_run.ensures.0,
      λ e. record { kept = c.is_run.ensures.1 e; start = f; place = a; reports = n },
    )

pub returns-else-buf-eq-BUFFER_BYTES : goal.returns-else-buf-eq-BUFFER_BYTES
unfolding feed_test
returns-else-buf-eq-BUFFER_BYTES c = (rw (le-ltb _ _ c.if-chunk-from.false, le-ltb _ _ c.if-out-at.false, ne_eqb _ _ c.if-buf-eq-BUFFER_BYTES.false), λ e. absurd (false≢true (sym (ne_eqb _ _ c.if-buf-eq-BUFFER_BYTES.false) ∙ e)))
