use Rattle.detector.specs.State.{blank_queue, queue_test}
use Rattle.sets.specs.Below.{every}
use mathlib.Core.Path.{◌≡◌}
use mathlib.Core.Bool.{true}
use Prim.Native.Nat.{ℕ, ◌<◌}
use lib.ListN.{length, get_or}
use Rattle.detector.proofs.valid.queues_valid.Given as goal

abbrev pub invariant-loop-q : goal.invariant-loop-q
invariant-loop-q l =
    (every (λ j. queue_test (get_or l.qs j blank_queue)) l.q-index ≡ true)
    × ((j : ℕ) → j < l.q-index → length (get_or l.qs j blank_queue).pairs ≡ 32)
