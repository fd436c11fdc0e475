-- What the calls promise.
use Rattle.std.specs.Prelude.{◌≡◌, List, cond, ℕ, ◌<◌, length, Result, Ok, Err}
use Rattle.waits.specs.Tables.{InRange}
use Rattle.waits.specs.Report.{written}
use Rattle.waits.specs.Promises.{laid}
use Rattle.detector.specs.Tables.{Effect}
use Rattle.detector.specs.Events.{apply}
use Rattle.detector.specs.Refusals.{refusal}
use Rattle.detector.specs.Condvar.{Woken}
use Rattle.detector.specs.Stuck.{stuck_count}
use Rattle.detector.specs.State.{tables, Valid, valid_test}
use Rattle.detector.specs.Numbered.{Reply, refused_by}
use Rattle.detector.specs.declared.event.Event.{Event}
use Rattle.detector.specs.declared.refused.Refusal.{Refusal}
use Rattle.detector.specs.declared.refused.Refusal.TheVariants.{State}
use Rattle.detector.specs.declared.state.Detector.{Detector}

-- AN EVENT'S PROMISE. States that the state d after the event is valid and has the tables of its effect, and that the
-- number n of reports and every byte of the buffer are those of its effect. The buffer is b before and e after.
pub record Does (d : Detector) (n : ℕ) (b e : List ℕ) (a : Effect) : Type 0 where
  pub state : tables d ≡ a.tables
  pub count : n ≡ length a.reports
  pub bytes : e ≡ laid b 0 (written a.reports)
  pub valid : Valid d

-- States the same of a walk over a queue: the state d has its tables and woken threads, n is the number of its reports so
-- far, and the next report goes to the place `at`.
pub record Wakes (d : Detector) (n at : ℕ) (b e : List ℕ) (s : Woken) : Type 0 where
  pub waits : d.waits ≡ s.waits
  pub woken : d.cv_woken ≡ s.woken
  pub count : n ≡ length s.reports
  pub bytes : e ≡ laid b 0 (written s.reports)
  pub used : at ≡ length (written s.reports)
  pub in_range : InRange d.waits

-- REFUSALS 2 TO 8. Returns the lowest refusal of a step, 2 if the state is not valid, or 0 if the event is accepted.
unfoldable pub refusal_of : Detector → ℕ → Event → ℕ
refusal_of d room e = cond (valid_test d) (refusal (tables d) room e) 2

-- Returns how many threads are stuck, or refusal 2 if the state is not valid.
abbrev pub stuck_of : Detector → Result ℕ Refusal
stuck_of d = cond (valid_test d) (Ok (stuck_count (tables d))) (Err State)

-- States what a step from the state d returns if its refusal is n. If n is above 0, that is the refusal n, and the
-- state and the buffer are as they were. If n is 0, it is the effect of the event's rule, with the number of reports as
-- the reply. The state is f after the step.
pub record Replies (n : ℕ) (d : Detector) (ev : Event) (f : Detector) (r : Reply) (b e : List ℕ) : Type 0 where
  pub refused : (0 < n) → (refused_by r ≡ n) × (f ≡ d) × (e ≡ b)
  pub served : (n ≡ 0)
      → (r ≡ Ok (length (apply ev (tables d)).reports))
      × Does f (length (apply ev (tables d)).reports) b e (apply ev (tables d))

-- A STEP'S PROMISE. States what a step returns in any state, for any event and any buffer.
abbrev pub Steps : Detector → Event → Detector → Reply → List ℕ → List ℕ → Type 0
Steps d ev f r b e = Replies (refusal_of d (length b) ev) d ev f r b e
