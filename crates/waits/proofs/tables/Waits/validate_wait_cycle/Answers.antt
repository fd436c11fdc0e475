use mathlib.Core.Path.{sym, ap, ◌∙◌}
use Rattle.waits.specs.Validate.{valid}
use Rattle.waits.proofs.Masks.{no_threads, first_fit, valid_none, valid_first, around_step, around_stop, around_end}
use Rattle.waits.proofs.tables.Waits.validate_wait_cycle.Goals as goal

pub returns-in_default : goal.returns-in_default
returns-in_default c =
    valid_none c.args.counts.now c.args.self.now
    ∙ ap (valid c.args.counts.now c.args.self.now) (sym (no_threads _ c.in_default.ensures.cases) ∙ c.threads.ensures.0)

pub loop-target-init : goal.loop-target-init
loop-target-init c =
    let t = c.threads.ensures in
    let e = c.in-Some.ensures.cases.0 in (
      (first_fit _ _ _ t.1 (sym t.0 ∙ e)).0,
      valid_first c.args.counts.now c.args.self.now _ _ ∙ ap (valid c.args.counts.now c.args.self.now) (sym e ∙ t.0),
    )

pub waits_for-requires : goal.waits_for-requires
waits_for-requires c =
    let t = c.threads.ensures in
    let f = first_fit _ _ _ t.1 (sym t.0 ∙ c.in-Some.ensures.cases.0) in
    (rw c.from.ensures c.loop-target.invariant.0, rw c.from-in-loop-target.ensures (f.1 _), c.requires)

pub returns-then-not-waits_for : goal.returns-then-not-waits_for
returns-then-not-waits_for c =
    let l = c.loop-target in
    around_stop _ _ c.in-Some.others.now c.in-Some.first.now l.source l.target-index c.loop-target-test.true
    (rw (← c.from.ensures, ← c.from-in-loop-target.ensures) (sym c.waits_for.ensures ∙ c.if-not-waits_for.true))
    ∙ l.invariant.1

pub loop-target-preserved : goal.loop-target-preserved
loop-target-preserved c =
    let l = c.loop-target in
    let t = c.threads.ensures in
    let f = first_fit _ _ _ t.1 (sym t.0 ∙ c.in-Some.ensures.cases.0) in (
      f.1 _,
      around_step _ _ c.in-Some.others.now c.in-Some.first.now l.source l.target-index c.loop-target-test.true
          (rw (← c.from.ensures, ← c.from-in-loop-target.ensures) (sym c.waits_for.ensures ∙ c.if-not-waits_for.false))
          ∙ l.invariant.1,
    )

pub waits_for-requires-2 : goal.waits_for-requires-2
waits_for-requires-2 c =
    let t = c.threads.ensures in
    let f = first_fit _ _ _ t.1 (sym t.0 ∙ c.in-Some.ensures.cases.0) in
    (rw c.from-2.ensures c.loop-target.invariant.0, rw c.from-3.ensures f.0, c.requires)

pub returns : goal.returns
returns c =
    let l = c.loop-target in
    c.waits_for-2.ensures
    ∙ rw (c.from-2.ensures, c.from-3.ensures) (around_end _ _ c.in-Some.others.now c.in-Some.first.now l.source l.target-index c.loop-target-test.false)
    ∙ l.invariant.1
