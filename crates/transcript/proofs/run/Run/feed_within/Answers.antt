use Rattle.transcript.proofs.Answering.{Results, line_results}
use Rattle.transcript.proofs.Turning.{printed_reports, answered_room, answered_line, carried_turn, line_turn}
use Rattle.transcript.proofs.Feeding.{goes_none, goes_on, goes_done}
use Rattle.transcript.specs.Replay.{line_result}
use Rattle.transcript.specs.declared.run.Run.{Run}
use Rattle.script.specs.Lines.{line_of}
use Rattle.detector.specs.State.{tables}
use Rattle.answers.proofs.Bounds.{Bytes}
use borrow.Author.Rules.{rules}
use mathlib.Core.Path.{◌≡◌, refl, ap, ◌∙◌}
use mathlib.Core.List.{◌++◌}
use Prim.Native.Nat.{◌-◌}
use native.Mathlib.Omega.{arith}
use lib.ListN.{take, drop}
use Rattle.transcript.proofs.run.Run.feed_within.Goals as goal
use Rattle.transcript.proofs.run.Run.feed_within.Goals.{After-reply-reply}

pub loop-next-init : goal.loop-next-init
loop-next-init c =
    let p = c.requires in
    (goes_none _ _ _ _ _ _ p.kept p.start, p.reports, (λ i. search rules), refl, p.place)

-- The reply is the result of the line.
results : (c : After-reply-reply) → Results c.reply-reply.new.self.detector c.reply-reply.result c.reply-reply.new.buf
    (line_result (tables c.loop-next.self.detector) (line_of (take c.loop-next.self.have c.loop-next.carry ++ take (c.up_to-end.result - c.loop-next.next) (drop c.loop-next.next c.args.chunk.now))))
results c =
    let v = c.loop-next.invariant in
    line_results _ _ _ _ _ v.0.moves.kept.valid v.1 _ c.reply-reply.ensures.reply

-- It leaves the number of lines as it was.
same : (c : After-reply-reply) → c.reply-reply.new.self.lines ≡ c.loop-next.self.lines
same c = ap (λ (r : Run). r.lines) c.reply-reply.ensures.same

pub put_answer-to-requires-clause-inside : goal.put_answer-to-requires-clause-inside
put_answer-to-requires-clause-inside c =
    rw (c.printed.ensures, printed_reports)
    (omega (arith, (results (goal.at.put_answer-to-requires-clause-inside c).After-reply-reply).held, c.reply-reply.auto.buf, c.loop-next.invariant.1))

pub put_answer-to-requires-clause-room : goal.put_answer-to-requires-clause-room
put_answer-to-requires-clause-room c =
    let v = c.loop-next.invariant in
    let r = (goal.at.put_answer-to-requires-clause-room c).After-reply-reply in
    let bytes : Bytes c.reply-reply.new.buf = λ i. search rules in
    (answered_room _ _ _ _ _ (omega (arith, same r, v.0.moves.kept.lines)) bytes (results r) _ _ _ c.printed.ensures (omega (arith, c.reply-reply.auto.buf, v.1)) (omega (arith, c.if-out-to-lt-ANSWER_BYTES.false, v.4))).1

pub loop-next-preserved : goal.loop-next-preserved
loop-next-preserved c =
    let v = c.loop-next.invariant in
    let r = (goal.at.loop-next-preserved c).After-reply-reply in
    let p = c.put_answer-to in
    let k = v.0.moves.kept in
    let bytes : Bytes c.reply-reply.new.buf = λ i. search rules in
    let t = answered_line _ _ _ _ _ (omega (arith, same r, k.lines)) bytes (results r) _ _ _ c.printed.ensures _ _ p.ensures in
    rw (same r) (
      goes_on v.0
          (line_turn c.loop-next.self c.loop-next.carry c.reply-reply.new.carry _ c.loop-next.out p.new.out c.loop-next.next c.up_to-end.result c.loop-next.to p.result c.reply-reply.new.self.detector _
          k (omega (arith, k.lines, c.if-self-eq-LIMIT.false)) c.loop-next-test.true c.up_to-end.ensures c.if-end-chunk.false c.reply-reply.auto.carry refl (rw (same r) at t)),
      c.reply-reply.auto.buf ∙ v.1,
      bytes,
      p.auto.out ∙ v.3,
      omega (arith, t.3, p.auto.out, c.if-out-to-lt-ANSWER_BYTES.false, v.4),
    )

pub returns-then-end-chunk : goal.returns-then-end-chunk
returns-then-end-chunk c =
    let v = c.loop-next.invariant in
    let k = c.keep-self in
    goes_done
    (goes_on v.0 (carried_turn _ _ _ _ _ _ _ _ _ v.0.moves.kept (omega (arith, v.0.moves.kept.lines, c.if-self-eq-LIMIT.false)) c.loop-next-test.true c.up_to-end.ensures c.if-end-chunk.true k.auto.carry k.ensures))
    (omega (arith, v.3, v.4))
    (λ h k. absurd (omega (arith, h, c.if-end-chunk.true)))
