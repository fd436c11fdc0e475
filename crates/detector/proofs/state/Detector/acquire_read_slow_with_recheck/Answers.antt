use mathlib.Core.Path.{◌≡◌, sym, ap, ◌∙◌}
use mathlib.Core.Bool.{true}
use Rattle.waits.specs.Tables.{writer_of, write}
use Rattle.detector.specs.RwLock.{acquire_read, read_attempt}
use Rattle.detector.specs.Refusals.{full_attempt}
use Rattle.detector.specs.State.{tables}
use Rattle.detector.specs.Code.{put_waits}
use Rattle.detector.proofs.Promises.{redo, write_same, not_full_lem, was_blocked, hinted, as_taken, read_blocked}
use Rattle.detector.proofs.state.Detector.acquire_read_slow_with_recheck.Goals.{Joined-o, in-Blocked, in-Hinted}
use Rattle.detector.proofs.state.Detector.acquire_read_slow_with_recheck.Goals as goal

-- A taken read is refused where the count is full, so here it is not full.
pub complete_read-requires : goal.complete_read-requires
complete_read-requires c =
    let a = c.args in
    let r = c.requires in
    let x = tables a.self.now in
    (r.0, r.1, r.2, not_full_lem x a.t a.l (as_taken (full_attempt x a.t a.l) a.o (ap was_blocked c.in-Took.is) ∙ r.4))

pub returns-in-Took : goal.returns-in-Took
returns-in-Took c =
    let a = c.args in
    redo (as_taken (read_attempt (tables a.self.now) a.t a.l) a.o (ap was_blocked c.in-Took.is)) (c.complete_read.ensures a.buf.now)

-- After the match the thread was blocked, and the writer is the one of the hint, or the one that was there.
blocked : (c : Joined-o)
    → (was_blocked c.args.o ≡ true)
    × (c.match-o.self ≡ put_waits c.args.self.now (write c.args.self.now.waits (hinted (writer_of c.args.self.now.waits c.args.l) c.args.o) c.args.l))
blocked c =
    let d = c.args.self.now in
    elim c.match-o.branch [
      | in-Blocked w ↦ (ap was_blocked w.in-Blocked.is, rw (w.self-is, w.in-Blocked.is) (sym (ap (put_waits d) (write_same d.waits c.args.l))))
      | in-Hinted w ↦ (ap was_blocked w.in-Hinted.is, rw (w.self-is, w.in-Hinted.is))
    ]

pub returns : goal.returns
unfolding acquire_read
returns c =
    let a = c.args in
    let b = blocked (goal.at.returns c).Joined-o in
    redo (read_blocked (tables a.self.now) a.t a.l a.o b.0) (rw b.1 at c.block.ensures)
