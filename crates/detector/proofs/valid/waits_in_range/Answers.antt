use Rattle.detector.specs.State.{range_test}
use Rattle.detector.proofs.Validity.{range_last, range_second, range_first, tested_range}
use borrow.Author.Rules.{rules}
use lib.ListN.{length}
use mathlib.Core.Bool.{false≢true}
use mathlib.Core.Path.{◌≡◌, sym, ◌∙◌}
use Rattle.detector.proofs.valid.waits_in_range.Goals as goal
use Rattle.detector.proofs.valid.waits_in_range.Goals.{then-intents_in_range, else-intents_in_range}

pub returns-then-threads_in_range : goal.returns-then-threads_in_range
returns-then-threads_in_range c =
    let w = c.args.w.now in
    let i = c.intents_in_range.ensures in
    let o : length w.mutex_owners ≡ 64 = search rules in
    let r : length w.rwlock_writer ≡ 64 = search rules in
    let last = c.threads_in_range-then-threads_in_range in
    elim c.if-intents_in_range.branch [
      | then-intents_in_range b ↦
          let e : last.result ≡ range_test w =
          last.ensures ∙ range_last w i.1 o r (sym i.0 ∙ b.if-intents_in_range.true) (sym b.threads_in_range.ensures ∙ sym b.value-is ∙ c.if-threads_in_range.true) in
          (e, λ t. tested_range w i.1 o r (sym e ∙ t), i.1, o, r)
      | else-intents_in_range b ↦ absurd (false≢true (sym b.if-intents_in_range.false ∙ sym b.value-is ∙ c.if-threads_in_range.true))
    ]

pub returns-else-threads_in_range : goal.returns-else-threads_in_range
returns-else-threads_in_range c =
    let w = c.args.w.now in
    let i = c.intents_in_range.ensures in
    let o : length w.mutex_owners ≡ 64 = search rules in
    let r : length w.rwlock_writer ≡ 64 = search rules in
    let f = c.if-threads_in_range.false in (
      f
          ∙ elim c.if-intents_in_range.branch [
            | then-intents_in_range b ↦ range_second w i.1 o r (sym i.0 ∙ b.if-intents_in_range.true) (sym b.threads_in_range.ensures ∙ sym b.value-is ∙ f)
            | else-intents_in_range b ↦ range_first w i.1 o r (sym i.0 ∙ b.if-intents_in_range.false)
          ],
      λ t. absurd (false≢true (sym f ∙ t)),
      i.1,
      o,
      r,
    )
