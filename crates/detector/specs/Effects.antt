-- AN EVENT, SERVED OR REFUSED: its effect on the tables, and the reply to it.
use Rattle.std.specs.Prelude.{cond, ℕ, eqb, length, Ok, Err}
use Rattle.detector.specs.Tables.{Tables, Effect, silent}
use Rattle.detector.specs.Events.{apply}
use Rattle.detector.specs.Refusals.{refusal}
use Rattle.detector.specs.Numbered.{Reply, numbered}
use Rattle.detector.specs.declared.event.Event.{Event}

-- Returns the effect of an event on the tables x with a buffer of room bytes: that of its rule, or none if refused.
unfoldable pub effect : Tables → ℕ → Event → Effect
effect x room e = cond (eqb (refusal x room e) 0) (apply e x) (silent x)

-- Returns the reply to the event: the number of reports, or the refusal.
abbrev pub replied : Tables → ℕ → Event → Reply
replied x room e = cond (eqb (refusal x room e) 0) (Ok (length (effect x room e).reports)) (Err (numbered (refusal x room e)))
