use Rattle.detector.specs.State.{tables}
use Rattle.transcript.proofs.Feeding.{totals_text, ends_closed}
use Rattle.answers.proofs.Bounds.{end_room, end_bound}
use borrow.Author.Rules.{rules}
use Prim.Native.Nat.{◌<◌, ◌^◌}
use native.Mathlib.Omega.{arith}
use Rattle.transcript.proofs.run.Run.finish_within.Goals as goal

pub stuck_within-stuck-requires : goal.stuck_within-stuck-requires
stuck_within-stuck-requires c = c.requires.kept.valid

pub put_end-requires : goal.put_end-requires
put_end-requires c =
    let e : c.edges_stored-edges.result < 2 ^ 64 = search rules in
    let k : c.stuck_within-stuck.result < 2 ^ 64 = search rules in
    end_room _ _ _ _ _ (omega (arith, c.requires.kept.lines)) e k c.requires.place

pub returns : goal.returns
returns c =
    let p = c.put_end.ensures in
    let d = c.edges_stored-edges in
    let t = c.stuck_within-stuck in
    let e : d.result < 2 ^ 64 = search rules in
    let k : t.result < 2 ^ 64 = search rules in
    let r = c.args.self.now in
    let w = end_bound r.lines d.result t.result (omega (arith, c.requires.kept.lines)) e k in
    (rw (ends_closed r c.args.carry.now c.requires.closed, ← totals_text r.lines d.result t.result (tables r.detector) d.ensures t.ensures) p, omega (arith, p.place, w))
