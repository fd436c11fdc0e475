-- What the calls promise anybody, with any run, any places and any buffers: a call that the inner call could
-- serve is taken, and any other is refused and changes nothing.
use Rattle.std.specs.Prelude.{◌≡◌, Bool, true, false, cond, List, ℕ, ◌-◌, eqb, ltb, length, Option, None, MatchOption}
use Rattle.detector.specs.Refusals.{buffer_bytes}
use Rattle.detector.specs.State.{valid_test}
use Rattle.text.specs.Lines.{carry_bytes}
use Rattle.text.specs.Promises.{Put}
use Rattle.answers.specs.Answers.{end_bytes}
use Rattle.transcript.specs.Replay.{limit}
use Rattle.transcript.specs.Chunks.{ends}
use Rattle.transcript.specs.Code.{mid_of}
use Rattle.transcript.specs.Promises.{IsRun, FeedAsks, EndAsks, Feeds}
use Rattle.transcript.specs.declared.run.Run.{Run}
use Rattle.transcript.specs.declared.run.Turned.{Turned}

-- Returns true if the run can be one between two bytes of a text: at most 1,000,000 lines read, at most 41
-- bytes carried in a carry of 41, and a valid state.
unfoldable pub run_test : Run → List ℕ → Bool
run_test r carry =
    cond (ltb limit r.lines) false
    (cond (ltb carry_bytes r.have) false (cond (eqb (length carry) carry_bytes) (valid_test r.detector) false))

-- Returns true if there is a run, a place in the chunk, a place in the out buffer, and a report buffer of
-- exactly 2,080 bytes.
unfoldable pub feed_test : Run → List ℕ → ℕ → ℕ → ℕ → ℕ → ℕ → Bool
feed_test r carry chunk from out at buf =
    cond (ltb chunk from) false (cond (ltb out at) false (cond (eqb buf buffer_bytes) (run_test r carry) false))

-- Returns true if there is a run with no line left to answer, and room for the totals.
unfoldable pub end_test : Run → List ℕ → ℕ → ℕ → Bool
end_test r carry out at =
    cond (ltb out at) false
    (cond (ltb (out - at) end_bytes) false
    (cond (eqb r.have 0) (run_test r carry) (cond (eqb r.lines limit) (run_test r carry) false)))

-- States what `feed` promises for any call.
pub record FeedsAny (r : Run) (carry chunk : List ℕ) (from : ℕ) (out : List ℕ) (at : ℕ) (buf : List ℕ) (r' : Run) (f : Option Turned) (carry' out' buf' : List ℕ) : Type 0 where
  pub fed : feed_test r carry (length chunk) from (length out) at (length buf) ≡ true
      → MatchOption f ⊥ (λ t. Feeds r carry chunk from out at r' t carry' out')
  pub refused : feed_test r carry (length chunk) from (length out) at (length buf) ≡ false
      → (f ≡ None) × (r' ≡ r) × (carry' ≡ carry) × (out' ≡ out) × (buf' ≡ buf)

-- States what `finish` promises for any call.
pub record EndsAny (r : Run) (carry out : List ℕ) (at : ℕ) (e : Option ℕ) (out' : List ℕ) : Type 0 where
  pub ended : end_test r carry (length out) at ≡ true → MatchOption e ⊥ (λ to. Put out at (ends (mid_of r carry)) out' to)
  pub refused : end_test r carry (length out) at ≡ false → (e ≡ None) × (out' ≡ out)

-- These three state that what the inner calls ask passes the tests (`run_taken`, `feed_taken`, `end_taken`), so
-- that no call is refused that they could serve.
abbrev pub RunTaken : Type 0
RunTaken = (r : Run) (carry : List ℕ) → IsRun r carry → run_test r carry ≡ true

abbrev pub FeedTaken : Type 0
FeedTaken = (r : Run) (carry : List ℕ) (chunk from out at buf : ℕ) → FeedAsks r carry chunk from out at buf → feed_test r carry chunk from out at buf ≡ true

abbrev pub EndTaken : Type 0
EndTaken = (r : Run) (carry : List ℕ) (out at : ℕ) → EndAsks r carry out at → end_test r carry out at ≡ true
