-- What the methods that put the items of a table ask and promise.
use Rattle.std.specs.Prelude.{ℕ, ◌<◌, ◌≡◌, List, eqb, get_or}
use Rattle.detector.specs.Limits.{CONDVARS}
use Rattle.text.specs.Promises.{Room, Put}
use Rattle.detector.specs.State.{Queued, blank_queue}
use Rattle.detector.specs.declared.state.Queue.{Queue}
use Rattle.listing.specs.Code.{more}
use Rattle.listing.specs.declared.line.Line.{Line}

-- States that l is the line of the table `name` with nothing put, which begins at `at` in the buffer d.
pub record Begun (d : List ℕ) (at : ℕ) (name : List ℕ) (l : Line) : Type 0 where
  pub buffer : l.out.now ≡ d
  pub start : l.start ≡ at
  pub place : l.at ≡ at
  pub named : l.name.now ≡ name

-- States that the line l's buffer has room for the text s after what has been put.
pub record Fits (l : Line) (s : List ℕ) : Type 0 where
  pub room : Room l.out.now l.at s

-- States that m is the line l, in the same buffer, with the text s put.
pub record Grows (l : Line) (s : List ℕ) (m : Line) : Type 0 where
  pub put : Put l.out.now l.at s m.out.now m.at
  pub same : m.out.ghost_name ≡ l.out.ghost_name
  pub start : m.start ≡ l.start
  pub name : m.name ≡ l.name

-- States that the line l's buffer has room for these items.
pub record Roomy (l : Line) (items : List (List ℕ)) : Type 0 where
  pub fits : Fits l (more (eqb l.at l.start) l.name.now items)

-- States that m is the line l with these items put.
pub record Lists (l : Line) (items : List (List ℕ)) (m : Line) : Type 0 where
  pub grows : Grows l (more (eqb l.at l.start) l.name.now items) m

-- States that every queue is valid, as refusal 2 tests it.
abbrev pub Queues : List Queue → Type 0
Queues qs = (c : ℕ) → c < CONDVARS → Queued (get_or qs c blank_queue)
