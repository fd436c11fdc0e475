-- DEMAND 1. Whatever the event or the script text is, it is answered and comes to an end. An event beyond the
-- limits (docs/RULES.md) is refused with the number of the refusal, and leaves the state and the report buffer
-- as they were. This file is about events; script texts are in crate `transcript`, specs/Calls.antt.
use Rattle.std.specs.Prelude.{◌≡◌, List, ℕ, ◌<◌, length}
use Rattle.detector.specs.Numbered.{refused_by}
use Rattle.detector.specs.Promises.{refusal_of, Steps}
use Rattle.detector.specs.declared.event.Event.{Event}
use Rattle.detector.specs.declared.state.Detector.{Detector}
use Rattle.demands.specs.Driven.{Call, Stepped, Back, Driven, Starts}
use Rattle.detector.specs.Typed.{Typed}

-- AN ANSWER AND AN END (`step_answered`): from any state that the types can hold, valid or not, any event and buffer
-- have a result that keeps the promise of a step, in a state that the types can hold. A record with cells beyond its
-- type could pass the tests and not be served; `typed` (crate `detector`, src/types.rt) rules it out for the code.
abbrev pub StepAnswered : Type 0
StepAnswered = (d : Detector) (k : Call) → Typed d → (r : Stepped) × (e : List ℕ) × Steps d k.event r.detector r.reply k.lent e × Typed r.detector

-- So any calls lead on, with a result each (`all_answered`).
abbrev pub AllAnswered : Type 0
AllAnswered = (d : Detector) → Typed d → (ks : List Call) → (bs : List Back) × (e : Detector) × Driven d ks bs e × Typed e

-- The same holds from the empty state (`all_answered_from_new`).
abbrev pub AllAnsweredFromNew : Type 0
AllAnsweredFromNew = (d : Detector) → Starts d → (ks : List Call) → (bs : List Back) × (e : Detector) × Driven d ks bs e

-- There are as many results as calls (`each_answered`).
abbrev pub EachAnswered : Type 0
EachAnswered = (d e : Detector) (ks : List Call) (bs : List Back) → Driven d ks bs e → length bs ≡ length ks

-- REFUSED BY NUMBER (`refused_by_number`): the reply has the number of the refusal, or 0 for none, in a state
-- that is not valid too. After a refusal the state and the buffer are what they were.
pub record Refuses (d : Detector) (ev : Event) (r : Stepped) (b e : List ℕ) : Type 0 where
  pub number : refused_by r.reply ≡ refusal_of d (length b) ev
  pub same : 0 < refused_by r.reply → (r.detector ≡ d) × (e ≡ b)

-- States this of every result that keeps the promise of a step.
abbrev pub RefusedByNumber : Type 0
RefusedByNumber = (d : Detector) (ev : Event) (r : Stepped) (b e : List ℕ) → Steps d ev r.detector r.reply b e → Refuses d ev r b e
