-- What the calls promise, and what they ask.
use Rattle.std.specs.Prelude.{◌≡◌, ◌⊎◌, List, ℕ, ◌+◌, ◌*◌, ◌-◌, ◌<◌, ◌≤◌, length, Option, Some, None, Err}
use Rattle.detector.specs.Refusals.{refusal, buffer_bytes}
use Rattle.detector.specs.Numbered.{Reply}
use Rattle.detector.specs.State.{tables, Valid}
use Rattle.detector.specs.Promises.{Replies}
use Rattle.detector.specs.declared.event.Event.{Event}
use Rattle.detector.specs.declared.refused.Refusal.TheVariants.{Unreadable}
use Rattle.detector.specs.declared.state.Detector.{Detector}
use Rattle.text.specs.Lines.{carry_bytes}
use Rattle.text.specs.Promises.{Put}
use Rattle.answers.specs.Answers.{answer_bytes, end_bytes}
use Rattle.transcript.specs.Replay.{limit, begin}
use Rattle.transcript.specs.Chunks.{fed, prints}
use Rattle.transcript.specs.Code.{run_of, mid_of, between}
use Rattle.transcript.specs.declared.run.Run.{Run}
use Rattle.transcript.specs.declared.run.Turned.{Turned}

-- States that the run r stands before the first byte of a text.
pub record Begins (r : Run) : Type 0 where
  pub valid : Valid r.detector
  pub run : run_of r ≡ begin
  pub have : r.have ≡ 0

-- States that the run r with its carry can stand between two bytes of a text: the state is valid, at most
-- 1,000,000 lines were read, and at most 41 bytes are carried, in a carry of 41.
pub record IsRun (r : Run) (carry : List ℕ) : Type 0 where
  pub valid : Valid r.detector
  pub lines : r.lines ≤ limit
  pub have : r.have ≤ carry_bytes
  pub long : length carry ≡ carry_bytes

-- States what `feed_within` asks of a call with a chunk, an out buffer and a report buffer of these lengths.
pub record FeedAsks (r : Run) (carry : List ℕ) (chunk from out at buf : ℕ) : Type 0 where
  pub kept : IsRun r carry
  pub start : from ≤ chunk
  pub place : at ≤ out
  pub reports : buf ≡ buffer_bytes

-- States what `finish_within` asks of a call with an out buffer of this length: no line is left to answer, and
-- there is room for the totals.
pub record EndAsks (r : Run) (carry : List ℕ) (out at : ℕ) : Type 0 where
  pub kept : IsRun r carry
  pub closed : (r.have ≡ 0) ⊎ (r.lines ≡ limit)
  pub place : at + end_bytes ≤ out

-- States how a line is replied to, which reads as l: if it is no event, it is refused with 1, and the state and the
-- report buffer are as they were; an event gets the reply of a step. The state is d before and f after.
abbrev pub Replied : Detector → Option Event → Detector → Reply → List ℕ → List ℕ → Type 0
Replied d None f r b e = (r ≡ Err Unreadable) × (f ≡ d) × (e ≡ b)
Replied d (Some ev) f r b e = Replies (refusal (tables d) (length b) ev) d ev f r b e

-- States that the bytes of the chunk from one place to another lead from the run r to the run r'.
pub record Moves (r : Run) (carry chunk : List ℕ) (from to : ℕ) (r' : Run) (carry' : List ℕ) : Type 0 where
  pub kept : IsRun r' carry'
  pub onward : from ≤ to
  pub inside : to ≤ length chunk
  pub after : mid_of r' carry' ≡ fed (mid_of r carry) (between from to chunk)

-- States what `feed_within` promises: the run after it and every byte put are those of the part of the chunk that it
-- took. It goes on to the chunk's end, the limit of lines, or the place where the longest answer has no room, and no
-- line prints more than the longest answer.
pub record Feeds (r : Run) (carry chunk : List ℕ) (from : ℕ) (out : List ℕ) (at : ℕ) (r' : Run) (t : Turned) (carry' out' : List ℕ) : Type 0 where
  pub moves : Moves r carry chunk from t.next r' carry'
  pub text : Put out at (prints (mid_of r carry) (between from t.next chunk)) out' t.at
  pub place : t.at ≤ length out
  pub short : t.at ≤ at + answer_bytes * (r'.lines - r.lines)
  pub stops : t.next < length chunk → r'.lines < limit → length out < t.at + answer_bytes
