use mathlib.Core.Bool.{cond}
use mathlib.Core.Path.{◌≡◌, sym, ap, ◌∙◌}
use native.Mathlib.Omega.{arith}
use Prim.Native.Nat.{ℕ}
use Rattle.sets.proofs.Below.{each_none, each_next}
use Rattle.waits.specs.Tables.{intent_of}
use Rattle.waits.specs.Waiting.{clear}
use Rattle.waits.specs.Validate.{names}
use Rattle.waits.specs.declared.tables.Waits.{Waits}
use Rattle.detector.specs.Mutex.{clear_naming}
use Rattle.detector.specs.Code.{put_waits}
use Rattle.detector.proofs.state.Detector.clear_naming.Goals.{then-names, else-names}
use Rattle.detector.proofs.state.Detector.clear_naming.Goals as goal

-- Returns the waits v after the thread k was looked at, in the waits w for the lock l.
abbrev turn : Waits → ℕ → Waits → ℕ → Waits
turn w l v k = cond (names (intent_of w k) l) (clear v k) v

pub loop-t-init : goal.loop-t-init
loop-t-init c = (c.requires, ap (put_waits c.args.self.now) (sym (each_none (turn c.args.self.now.waits c.args.l) _)))

-- One turn clears the thread's intent if it names the lock.
stepped : (c : goal.Joined-names) → c.if-names.self ≡ put_waits c.loop-t.self (turn c.args.self.now.waits c.args.l c.loop-t.self.waits c.loop-t.t)
stepped c =
    let l = c.loop-t in
    let n = sym c.names.ensures in
    let w = l.self.waits in
    elim c.if-names.branch [
      | then-names z ↦ rw (z.self-is, z.clear_wait_intent.ensures.0) (sym (ap (λ b. put_waits l.self (cond b (clear w l.t) w)) (n ∙ z.if-names.true)))
      | else-names z ↦ rw z.self-is (sym (ap (λ b. put_waits l.self (cond b (clear w l.t) w)) (n ∙ z.if-names.false)))
    ]

pub loop-t-preserved : goal.loop-t-preserved
loop-t-preserved c =
    let l = c.loop-t in
    let w = c.args.self.now.waits in
    let d = c.args.self.now in (
      elim c.if-names.branch [ then-names z ↦ rw z.self-is z.clear_wait_intent.ensures.1 | else-names z ↦ rw z.self-is l.invariant.0 ],
      stepped c
          ∙ ap (λ e. put_waits e (turn w c.args.l e.waits l.t)) l.invariant.1
          ∙ ap (put_waits d) (each_next (turn w c.args.l) w l.t),
    )

pub returns : goal.returns
unfolding clear_naming
returns c =
    let l = c.loop-t in
    let z : l.t ≡ 32 = omega arith in
    (rw z at l.invariant.1, l.invariant.0)
