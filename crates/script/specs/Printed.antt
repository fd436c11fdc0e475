-- These definitions give the line that is printed for an event.
use Rattle.std.specs.Prelude.{ℕ, ◌<◌, List, [], ◌∷◌, get_or}
use Rattle.text.specs.Bytes.{text}
use Rattle.text.specs.Decimal.{decimal, joined}
use Rattle.script.specs.Words.{Word, ma, mc, mr, md, ra, rc, rt, rr, wa, wc, wr, rd, cn, cd, cb, c1, ca, ce, spelled}
use Rattle.waits.specs.Code as code
use Rattle.waits.specs.declared.outcome.Outcome.{Outcome}
use Rattle.waits.specs.declared.outcome.Outcome.TheVariants as outcome
use Rattle.waits.specs.declared.outcome.Tried.{Tried}
use Rattle.detector.specs.declared.event.Event.{Event}
use Rattle.detector.specs.declared.event.Event.TheVariants as event

-- Holds a word and the fields after it: one number, two, or two and an outcome.
pub data Parts : Type 0 where
  one : Word → ℕ → Parts
  two : Word → ℕ → ℕ → Parts
  three : Word → ℕ → ℕ → Outcome → Parts

-- Returns the outcome that is printed for a try of `rt`.
abbrev pub as_outcome : Tried → Outcome
as_outcome o = code.as_outcome o

-- Returns the word of an event and its fields. The lock of `cb` and `ce` stands there as a hint.
abbrev pub parts_of : Event → Parts
parts_of (event.MutexAttempt t l o) = three ma t l o
parts_of (event.MutexAcquired t l) = two mc t l
parts_of (event.MutexReleased t l) = two mr t l
parts_of (event.MutexExit l) = one md l
parts_of (event.RwReadAttempt t l o) = three ra t l o
parts_of (event.RwReadAcquired t l) = two rc t l
parts_of (event.RwReadTry t l o) = three rt t l (as_outcome o)
parts_of (event.RwReadReleased t l) = two rr t l
parts_of (event.RwWriteAttempt t l o) = three wa t l o
parts_of (event.RwWriteAcquired t l) = two wc t l
parts_of (event.RwWriteReleased t l) = two wr t l
parts_of (event.RwExit l) = one rd l
parts_of (event.CondvarSpawn c) = one cn c
parts_of (event.CondvarExit c) = one cd c
parts_of (event.CondvarWaitBegin t c l) = three cb t c (outcome.Hinted l)
parts_of (event.CondvarNotifyOne c) = one c1 c
parts_of (event.CondvarNotifyAll c) = one ca c
parts_of (event.CondvarWaitEnd t c l) = three ce t c (outcome.Hinted l)

-- Returns the field that is printed for an outcome.
abbrev pub outcome_text : Outcome → List ℕ
outcome_text outcome.Took = text "took"
outcome_text outcome.Blocked = text "-"
outcome_text (outcome.Hinted h) = decimal h

-- Returns the line of a word and its fields, without a line feed.
unfoldable pub parts_text : Parts → List ℕ
parts_text (one w a) = joined (spelled w ∷ decimal a ∷ [])
parts_text (two w a b) = joined (spelled w ∷ decimal a ∷ decimal b ∷ [])
parts_text (three w a b o) = joined (spelled w ∷ decimal a ∷ decimal b ∷ outcome_text o ∷ [])

-- Returns the line of an event, without a line feed.
unfoldable pub event_text : Event → List ℕ
event_text e = parts_text (parts_of e)

-- Returns the hint of an outcome, or nothing if it has none.
abbrev pub hints_of : Outcome → List ℕ
hints_of outcome.Took = []
hints_of outcome.Blocked = []
hints_of (outcome.Hinted h) = h ∷ []

-- Returns all numbers among the fields.
abbrev pub parts_numbers : Parts → List ℕ
parts_numbers (one w a) = a ∷ []
parts_numbers (two w a b) = a ∷ b ∷ []
parts_numbers (three w a b o) = a ∷ b ∷ hints_of o

-- States that every number of ns is below m.
abbrev pub AllBelow : ℕ → List ℕ → Type 0
AllBelow m ns = (i : ℕ) → get_or ns i 0 < m

-- States that every number of the event e is below m.
abbrev pub EventBelow : ℕ → Event → Type 0
EventBelow m e = AllBelow m (parts_numbers (parts_of e))

-- The line of an event takes at most this many bytes, with any numbers of 64 bits.
abbrev pub event_bytes : ℕ
event_bytes = 65
