use Rattle.transcript.proofs.Turning.{Goes}
use Rattle.detector.specs.Refusals.{buffer_bytes}
use Rattle.answers.proofs.Bounds.{Bytes}
use mathlib.Core.Path.{◌≡◌}
use Prim.Native.Nat.{◌-◌, ◌≤◌}
use lib.ListN.{length}
use Rattle.transcript.proofs.run.Run.feed_within.Given as goal

abbrev pub invariant-loop-next : goal.invariant-loop-next
invariant-loop-next l =
    Goes l.initial.self l.initial.carry l.chunk l.from l.initial.out l.at l.carry l.out l.self l.next l.to
    × (length l.buf ≡ buffer_bytes) × Bytes l.buf × (length l.out ≡ length l.initial.out) × (l.to ≤ length l.out)

abbrev pub decreases-loop-next : goal.decreases-loop-next
decreases-loop-next l = length l.chunk - l.next
