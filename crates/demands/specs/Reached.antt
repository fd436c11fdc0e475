-- THE RULES' RUN: events one after the other, and the tables that they lead to from the empty state.
use Rattle.std.specs.Prelude.{◌≡◌, List, [], ◌∷◌}
use Rattle.detector.specs.Tables.{Tables, empty}
use Rattle.detector.specs.Refusals.{buffer_bytes}
use Rattle.detector.specs.Effects.{effect}
use Rattle.detector.specs.declared.event.Event.{Event}

-- Returns the tables after the events.
unfoldable pub reach : Tables → List Event → Tables
reach x [] = x
reach x (e ∷ es) = reach (effect x buffer_bytes e).tables es

-- States that the tables x are reached: some events lead to them from the empty state.
pub record Reached (x : Tables) : Type 0 where
  pub events : List Event
  pub reaches : reach empty events ≡ x
