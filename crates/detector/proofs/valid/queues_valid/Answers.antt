use Rattle.sets.proofs.Below.{every_more, every_not, last_or}
use Rattle.sets.specs.Below.{every}
use native.Mathlib.Numerals.{add-one}
use mathlib.Core.Path.{refl, sym, ◌∙◌}
use mathlib.Core.Logic.{⊎_elim}
use mathlib.Core.Bool.{false≢true}
use native.Mathlib.Omega.{arith}
use Rattle.detector.proofs.valid.queues_valid.Goals as goal

pub loop-q-init : goal.loop-q-init
unfolding every
loop-q-init c = (refl, λ j h. absurd (omega arith))

pub loop-q-preserved : goal.loop-q-preserved
loop-q-preserved c =
    let l = c.loop-q.invariant in
    let q = c.queue_valid.ensures in (
      rw add-one (every_more _ _ l.0 (sym q.0 ∙ c.if-not-queue_valid.false)),
      λ j h. ⊎_elim (l.1 j) (λ e. rw e q.1) (last_or j _ (rw add-one at h)),
    )

pub returns-then-not-queue_valid : goal.returns-then-not-queue_valid
returns-then-not-queue_valid c = (
  sym (every_not _ 16 c.loop-q.q-index (omega arith) (sym c.queue_valid.ensures.0 ∙ c.if-not-queue_valid.true)),
  λ e. absurd (false≢true e),
)
