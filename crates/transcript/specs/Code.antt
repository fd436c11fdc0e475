-- What a run of the code means, and which bytes a part of a chunk has.
use Rattle.std.specs.Prelude.{List, ℕ, take, drop}
use Rattle.detector.specs.State.{tables}
use Rattle.transcript.specs.Replay as replay
use Rattle.transcript.specs.Chunks.{Mid, mid}
use Rattle.detector.specs.declared.state.Detector.{Detector}
use Rattle.transcript.specs.declared.run.Run.{Run}

-- Returns the lines read by a run of the code, and the tables that its state means.
abbrev pub run_of : Run → replay.Run
run_of r = record { lines = r.lines; tables = tables r.detector }

-- Returns the run with another state.
abbrev pub with_detector : Run → Detector → Run
with_detector r d = record { detector = d; lines = r.lines; have = r.have }

-- Returns where the text stands in a run of the code, of whose carry the first `have` bytes count.
abbrev pub mid_of : Run → List ℕ → Mid
mid_of r carry = mid (take r.have carry) (run_of r)

-- Returns the bytes of c from one place to another.
abbrev pub between : ℕ → ℕ → List ℕ → List ℕ
between from to c = drop from (take to c)
