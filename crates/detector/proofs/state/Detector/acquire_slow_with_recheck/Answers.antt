use mathlib.Core.Path.{◌≡◌, sym, ap}
use mathlib.Core.Bool.{true}
use Rattle.waits.specs.Tables.{owner_of, own}
use Rattle.detector.specs.Mutex.{acquire_slow, mutex_attempt}
use Rattle.detector.specs.State.{tables}
use Rattle.detector.specs.Code.{put_waits}
use Rattle.detector.proofs.Promises.{redo, own_same, was_blocked, hinted, as_taken, mutex_blocked}
use Rattle.detector.proofs.state.Detector.acquire_slow_with_recheck.Goals.{Joined-o, in-Blocked, in-Hinted}
use Rattle.detector.proofs.state.Detector.acquire_slow_with_recheck.Goals as goal

pub returns-in-Took : goal.returns-in-Took
returns-in-Took c =
    let a = c.args in
    redo (as_taken (mutex_attempt (tables a.self.now) a.t a.l) a.o (ap was_blocked c.in-Took.is)) c.complete_acquire.ensures

-- After the match the thread was blocked, and the owner is the one of the hint, or the one that was there.
blocked : (c : Joined-o)
    → (was_blocked c.args.o ≡ true)
    × (c.match-o.self ≡ put_waits c.args.self.now (own c.args.self.now.waits (hinted (owner_of c.args.self.now.waits c.args.l) c.args.o) c.args.l))
blocked c =
    let d = c.args.self.now in
    elim c.match-o.branch [
      | in-Blocked w ↦ (ap was_blocked w.in-Blocked.is, rw (w.self-is, w.in-Blocked.is) (sym (ap (put_waits d) (own_same d.waits c.args.l))))
      | in-Hinted w ↦ (ap was_blocked w.in-Hinted.is, rw (w.self-is, w.in-Hinted.is))
    ]

pub returns : goal.returns
unfolding acquire_slow
returns c =
    let a = c.args in
    let b = blocked (goal.at.returns c).Joined-o in
    redo (mutex_blocked (tables a.self.now) a.t a.l a.o b.0) (rw b.1 at c.block.ensures)
