-- HOW MANY REPORTS an event gives, and how many bytes they take.
use Rattle.std.specs.Prelude.{List, ℕ, ◌<◌, ◌≤◌, length}
use Rattle.detector.specs.Limits.{CONDVARS, PLACES}
use Rattle.waits.specs.Report.{Report, written}
use Rattle.detector.specs.Refusals.{buffer_bytes}
use Rattle.detector.specs.Tables.{Tables, queue_of}
use Rattle.detector.specs.State.{tables, Valid}
use Rattle.detector.specs.Effects.{effect}
use Rattle.detector.specs.declared.event.Event.{Event}
use Rattle.detector.specs.declared.event.Event.TheVariants.{MutexAttempt, MutexAcquired, MutexReleased, MutexExit, RwReadAttempt, RwReadAcquired, RwReadTry, RwReadReleased, RwWriteAttempt, RwWriteAcquired, RwWriteReleased, RwExit, CondvarSpawn, CondvarExit, CondvarWaitBegin, CondvarNotifyOne, CondvarNotifyAll, CondvarWaitEnd}
use Rattle.detector.specs.declared.state.Detector.{Detector}

-- Returns the most reports that an event can give: 32 for ca, 1 for c1, ma, mc, ra, wa and wc, and 0 for the others.
abbrev pub most : Event → ℕ
most (MutexAttempt t l o) = 1
most (MutexAcquired t l) = 1
most (MutexReleased t l) = 0
most (MutexExit l) = 0
most (RwReadAttempt t l o) = 1
most (RwReadAcquired t l) = 0
most (RwReadTry t l o) = 0
most (RwReadReleased t l) = 0
most (RwWriteAttempt t l o) = 1
most (RwWriteAcquired t l) = 1
most (RwWriteReleased t l) = 0
most (RwExit l) = 0
most (CondvarSpawn c) = 0
most (CondvarExit c) = 0
most (CondvarWaitBegin t c l) = 0
most (CondvarNotifyOne c) = 1
most (CondvarNotifyAll c) = PLACES
most (CondvarWaitEnd t c l) = 0

-- States that the reports of an event are no more than that, and that a buffer of 2,080 bytes has room for them.
pub record Brief (e : Event) (rs : List Report) : Type 0 where
  pub few : length rs ≤ most e
  pub room : length (written rs) ≤ buffer_bytes

-- THE THEOREMS
-- States that no queue has more than 32 pairs.
abbrev pub ShortQueues : Tables → Type 0
ShortQueues x = (c : ℕ) → c < CONDVARS → length (queue_of x c) ≤ PLACES

-- States that reports are few and have room wherever the queues are short (theorem `all_brief`).
abbrev pub AllBrief : Type 0
AllBrief = (x : Tables) (room : ℕ) (e : Event) → ShortQueues x → Brief e (effect x room e).reports

-- States the same of every valid state of the code (theorem `valid_brief`).
abbrev pub ValidBrief : Type 0
ValidBrief = (d : Detector) (room : ℕ) (e : Event) → Valid d → Brief e (effect (tables d) room e).reports
