use Rattle.detector.proofs.Validity.{tested_valid, unmapped, valid_last, valid_second, valid_first}
use Rattle.detector.specs.State.{valid_test}
use borrow.Author.Rules.{rules}
use mathlib.Core.Path.{◌≡◌, sym, ◌∙◌}
use mathlib.Core.Bool.{false≢true}
use lib.ListN.{length}
use Rattle.detector.proofs.state.Detector.is_valid.Goals as goal
use Rattle.detector.proofs.state.Detector.is_valid.Goals.{then-waits_in_range, else-waits_in_range}

pub returns-then-queues_valid : goal.returns-then-queues_valid
returns-then-queues_valid c =
    let d = c.args.self.now in
    let w = c.waits_in_range.ensures in
    let v : length d.condvars.thread_wait_cv ≡ 32 = search (rules, unmapped) in
    elim c.if-waits_in_range.branch [
      | then-waits_in_range b ↦
          let q = b.queues_valid.ensures in
          let t = sym b.value-is ∙ c.if-queues_valid.true in
          let e : c.cv_waits_valid.result ≡ valid_test d = c.cv_waits_valid.ensures ∙ valid_last d v (sym w.0 ∙ b.if-waits_in_range.true) (sym q.0 ∙ t) in
          (e, λ r. tested_valid d (record { intents = w.2; owners = w.3; writers = w.4; cv_waits = v; cells = q.1 t }) (sym e ∙ r))
      | else-waits_in_range b ↦ absurd (false≢true (sym b.if-waits_in_range.false ∙ sym b.value-is ∙ c.if-queues_valid.true))
    ]

pub returns-else-queues_valid : goal.returns-else-queues_valid
returns-else-queues_valid c =
    let d = c.args.self.now in
    let w = c.waits_in_range.ensures in
    let f = c.if-queues_valid.false in (
      f
          ∙ elim c.if-waits_in_range.branch [
            | then-waits_in_range b ↦ valid_second d (sym w.0 ∙ b.if-waits_in_range.true) (sym b.queues_valid.ensures.0 ∙ sym b.value-is ∙ f)
            | else-waits_in_range b ↦ valid_first d (sym w.0 ∙ b.if-waits_in_range.false)
          ],
      λ e. absurd (false≢true (sym f ∙ e)),
    )
