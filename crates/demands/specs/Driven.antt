-- DRIVING THE DETECTOR: calls of the public call `step` one after the other, known by its promise `Steps`
-- alone. Each call is lent a report buffer of its own, of any length and with any bytes.
use Rattle.detector.specs.Numbered.{Reply}
use Rattle.std.specs.Prelude.{◌≡◌, List, [], ◌∷◌, ℕ}
use Rattle.detector.specs.Tables.{empty}
use Rattle.detector.specs.State.{tables, Valid}
use Rattle.detector.specs.Promises.{Steps}
use Rattle.detector.specs.declared.event.Event.{Event}
use Rattle.detector.specs.declared.state.Detector.{Detector}

-- Holds what goes into a call: the event, and the report buffer as it is lent.
pub record Call : Type 0 where
  pub event : Event
  pub lent : List ℕ

-- Holds what a call leaves in the detector: the state after it, and the reply.
pub record Stepped : Type 0 where
  pub detector : Detector
  pub reply : Reply

-- Holds what comes back: the reply, and the report buffer after the call.
pub record Back : Type 0 where
  pub reply : Reply
  pub buffer : List ℕ

-- States that the calls ks lead from the state d to the state e and give back bs.
pub data Driven : Detector → List Call → List Back → Detector → Type 0 where
  none : {d : Detector} → Driven d [] [] d
  next : {d : Detector} {k : Call} {r : Stepped} {b : List ℕ} {ks : List Call} {bs : List Back} {e : Detector}
      → Steps d k.event r.detector r.reply k.lent b → Driven r.detector ks bs e → Driven d (k ∷ ks) (record { reply = r.reply; buffer = b } ∷ bs) e

-- States that d is the empty state, as `new` returns it.
pub record Starts (d : Detector) : Type 0 where
  pub blank : tables d ≡ empty
  pub valid : Valid d
