-- DEMAND 2. For an event within the limits (docs/RULES.md), the reply, the reports and every table after it are the same as in
-- the Rust with ordered maps for its hash maps, which is shown by running both side by side (oracle/). They are
-- also proved to be what the rules give (docs/RULES.md): that is stated here, for all calls from the empty state.
use Rattle.std.specs.Prelude.{◌≡◌, List, [], ◌∷◌, ℕ, length}
use Rattle.waits.specs.Report.{written}
use Rattle.waits.specs.Promises.{laid}
use Rattle.detector.specs.Tables.{Tables, empty}
use Rattle.detector.specs.State.{tables, Valid}
use Rattle.detector.specs.Numbered.{refused_by}
use Rattle.detector.specs.Promises.{Steps}
use Rattle.detector.specs.declared.event.Event.{Event}
use Rattle.detector.specs.declared.state.Detector.{Detector}
use Rattle.detector.specs.Effects.{effect, replied}
use Rattle.demands.specs.Reached.{Reached}
use Rattle.demands.specs.Driven.{Call, Stepped, Back, Driven, Starts}
use Rattle.detector.specs.Typed.{Typed}

-- THE RULES' RUN over the same calls. Returns what a call gives back in tables x: the reply, and every byte of
-- the buffer.
abbrev pub back_of : Tables → Call → Back
back_of x k =
    record {
      reply = replied x (length k.lent) k.event;
      buffer = laid k.lent 0 (written (effect x (length k.lent) k.event).reports);
    }

-- Returns the tables after a call.
abbrev pub onward : Tables → Call → Tables
onward x k = (effect x (length k.lent) k.event).tables

-- Returns what the calls give back, one after the other.
unfoldable pub backs : Tables → List Call → List Back
backs x [] = []
backs x (k ∷ ks) = back_of x k ∷ backs (onward x k) ks

-- Returns the tables after the calls.
unfoldable pub reach_by : Tables → List Call → Tables
reach_by x [] = x
reach_by x (k ∷ ks) = reach_by (onward x k) ks

-- States that none of the replies is refusal 2.
abbrev pub NoTwo : List Back → Type 0
NoTwo [] = Unit
NoTwo (b ∷ bs) = (refused_by b.reply ≡ 2 → ⊥) × NoTwo bs

-- THE THEOREM (`as_ruled`). States that bs and the state e are what the rules give for the calls ks, that e is
-- valid, and that its tables are reached.
pub record AsRuled (ks : List Call) (bs : List Back) (e : Detector) : Type 0 where
  pub answers : bs ≡ backs empty ks
  pub state : tables e ≡ reach_by empty ks
  pub valid : Valid e
  pub reached : Reached (reach_by empty ks)
  pub no_two : NoTwo bs

-- States this of all calls from the empty state.
abbrev pub FedAsRuled : Type 0
FedAsRuled = (d e : Detector) (ks : List Call) (bs : List Back) → Starts d → Driven d ks bs e → AsRuled ks bs e

-- So the promise leaves no choice (`coincide`): the same calls give back the same and lead to states that mean
-- the same.
abbrev pub Coincide : Type 0
Coincide =
    (d e d' e' : Detector) (ks : List Call) (bs bs' : List Back) → Starts d → Driven d ks bs e → Starts d' → Driven d' ks bs' e'
    → (bs ≡ bs') × (tables e ≡ tables e')

-- The promise leaves no choice in a single call either (`steps_coincide`): from any state that the types can hold,
-- with any event and buffer, two results are the same. Without `Typed` a 17th queue could hold anything after its end.
abbrev pub StepsCoincide : Type 0
StepsCoincide =
    (d : Detector) (ev : Event) (r q : Stepped) (b e f : List ℕ) → Typed d → Steps d ev r.detector r.reply b e → Steps d ev q.detector q.reply b f → (r ≡ q) × (e ≡ f)
