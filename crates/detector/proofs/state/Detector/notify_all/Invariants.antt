use Rattle.detector.proofs.Queues.{begun}
use Rattle.detector.specs.Code.{put_woken}
use Rattle.detector.specs.Condvar.{wake_all}
use Rattle.detector.specs.Promises.{Wakes}
use mathlib.Core.Path.{◌≡◌}
use Prim.Native.Nat.{◌*◌, ◌≤◌}
use lib.ListN.{take}
use Rattle.detector.proofs.state.Detector.notify_all.Given as goal

abbrev pub invariant-loop-pair : goal.invariant-loop-pair
invariant-loop-pair l =
    Wakes l.self l.reports l.used l.initial.buf l.buf (wake_all l.fn.self.rwlock_readers (begun l.fn.self) (take l.pair-index l.pair-items))
    × (l.self ≡ put_woken l.initial.self l.self.waits l.self.cv_woken)
    × (l.used ≤ 65 * l.pair-index)
    × (l.reports ≤ l.pair-index)
