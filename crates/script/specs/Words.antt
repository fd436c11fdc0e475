-- These definitions give the 18 words: how each is spelled, and which event it makes with the fields after it.
use Rattle.std.specs.Prelude.{ℕ, cond, List, [], ◌∷◌, Option, Some, None, option_map}
use Rattle.text.specs.Bytes.{text, equal}
use Rattle.waits.specs.declared.outcome.Outcome.{Outcome}
use Rattle.waits.specs.declared.outcome.Outcome.TheVariants as outcome
use Rattle.waits.specs.declared.outcome.Tried.{Tried}
use Rattle.waits.specs.declared.outcome.Tried.TheVariants as tried
use Rattle.detector.specs.declared.event.Event.{Event}
use Rattle.detector.specs.declared.event.Event.TheVariants as event

-- The first four words are about mutexes, the next eight about rwlocks, the last six about condvars.
pub data Word : Type 0 where
  ma mc mr md ra rc rt rr wa wc wr rd cn cd cb c1 ca ce : Word

-- All words, in that order.
abbrev pub words : List Word
words = ma ∷ mc ∷ mr ∷ md ∷ ra ∷ rc ∷ rt ∷ rr ∷ wa ∷ wc ∷ wr ∷ rd ∷ cn ∷ cd ∷ cb ∷ c1 ∷ ca ∷ ce ∷ []

-- Returns the two letters of a word.
abbrev pub spelled : Word → List ℕ
spelled ma = text "ma"
spelled mc = text "mc"
spelled mr = text "mr"
spelled md = text "md"
spelled ra = text "ra"
spelled rc = text "rc"
spelled rt = text "rt"
spelled rr = text "rr"
spelled wa = text "wa"
spelled wc = text "wc"
spelled wr = text "wr"
spelled rd = text "rd"
spelled cn = text "cn"
spelled cd = text "cd"
spelled cb = text "cb"
spelled c1 = text "c1"
spelled ca = text "ca"
spelled ce = text "ce"

-- A shape gives what a word makes of one number after it, of two, and of two and a third field. The third field
-- is read as an outcome, so a number there comes as a hint.
pub record Shape : Type 0 where
  pub one : ℕ → Option Event
  pub two : ℕ → ℕ → Option Event
  pub three : ℕ → ℕ → Outcome → Option Event

-- Returns the shape of a word that takes a lock or a condvar and makes the event e of it.
abbrev pub single : (ℕ → Event) → Shape
single e = record { one = λ a. Some (e a); two = λ a b. None; three = λ a b o. None }

-- Returns the shape of a word that takes a thread and a lock.
abbrev pub tl : (ℕ → ℕ → Event) → Shape
tl e = record { one = λ a. None; two = λ a b. Some (e a b); three = λ a b o. None }

-- Returns the shape of a word that takes a thread, a lock and an outcome.
abbrev pub tlo : (ℕ → ℕ → Outcome → Event) → Shape
tlo e = record { one = λ a. None; two = λ a b. None; three = λ a b o. Some (e a b o) }

-- Returns how a try came out, or None for a hint.
abbrev pub no_hint : Outcome → Option Tried
no_hint outcome.Took = Some tried.Taken
no_hint outcome.Blocked = Some tried.Missed
no_hint (outcome.Hinted h) = None

-- Returns the shape of a word that takes a thread, a lock and an outcome that is no hint.
abbrev pub tlx : (ℕ → ℕ → Tried → Event) → Shape
tlx e = record { one = λ a. None; two = λ a b. None; three = λ a b o. option_map (e a b) (no_hint o) }

-- Returns the number that comes as a hint, or None for any other outcome.
abbrev pub as_number : Outcome → Option ℕ
as_number outcome.Took = None
as_number outcome.Blocked = None
as_number (outcome.Hinted n) = Some n

-- Returns the shape of a word that takes a thread, a condvar and a lock.
abbrev pub tcl : (ℕ → ℕ → ℕ → Event) → Shape
tcl e = record { one = λ a. None; two = λ a b. None; three = λ a b o. option_map (e a b) (as_number o) }

-- This is the shape of a field that is no word: nothing reads after it.
abbrev pub no_word : Shape
no_word = record { one = λ a. None; two = λ a b. None; three = λ a b o. None }

-- Returns the shape of a word.
abbrev pub shape : Word → Shape
shape ma = tlo event.MutexAttempt
shape mc = tl event.MutexAcquired
shape mr = tl event.MutexReleased
shape md = single event.MutexExit
shape ra = tlo event.RwReadAttempt
shape rc = tl event.RwReadAcquired
shape rt = tlx event.RwReadTry
shape rr = tl event.RwReadReleased
shape wa = tlo event.RwWriteAttempt
shape wc = tl event.RwWriteAcquired
shape wr = tl event.RwWriteReleased
shape rd = single event.RwExit
shape cn = single event.CondvarSpawn
shape cd = single event.CondvarExit
shape cb = tcl event.CondvarWaitBegin
shape c1 = single event.CondvarNotifyOne
shape ca = single event.CondvarNotifyAll
shape ce = tcl event.CondvarWaitEnd

-- Returns the shape of the word among ws that the field f spells, or no_word if it spells none.
abbrev pub shape_in : List Word → List ℕ → Shape
shape_in [] f = no_word
shape_in (w ∷ ws) f = cond (equal f (spelled w)) (shape w) (shape_in ws f)

-- Returns the shape of the word that the field f spells, or no_word if it spells none.
unfoldable pub shape_of : List ℕ → Shape
shape_of f = shape_in words f
