-- WHAT REPLAY PRINTS for a script: the answers to its lines, from the empty state and past refusals, up to line
-- 1,000,000, and then the totals.
use Rattle.std.specs.Prelude.{ℕ, ◌+◌, cond, List, [], ◌∷◌, ◌++◌, map, ltb, Option, Some, None, Err}
use Rattle.waits.specs.Report.{Entry, entries_of}
use Rattle.detector.specs.Tables.{Tables, Effect, silent, empty}
use Rattle.detector.specs.Stuck.{stuck_count, edge_count}
use Rattle.detector.specs.Numbered.{Reply, numbered}
use Rattle.detector.specs.Effects.{effect, replied}
use Rattle.detector.specs.Refusals.{buffer_bytes}
use Rattle.script.specs.Lines.{line_of, line_refusal}
use Rattle.detector.specs.declared.event.Event.{Event}
use Rattle.answers.specs.Answers.{printed, reply_text, cycles_text, end_text}
use Rattle.text.specs.Lines.{lines_of}

-- At most this many lines are read.
abbrev pub limit : ℕ
limit = 1000000

-- ---- A line

-- Holds what comes of a line: the tables after it, its reply, and the entries of each of its reports.
pub record Result : Type 0 where
  pub tables : Tables
  pub reply : Reply
  pub cycles : List (List Entry)

-- Returns the result of the effect a with the reply y.
abbrev pub replying : Reply → Effect → Result
replying y a = record { tables = a.tables; reply = y; cycles = map entries_of a.reports }

-- Returns the result of a line in tables x. An event has the effect and the reply that the rules give; a line
-- that does not read is refused and changes nothing.
abbrev pub line_result : Tables → Option Event → Result
line_result x (Some e) = replying (replied x buffer_bytes e) (effect x buffer_bytes e)
line_result x None = replying (Err (numbered (line_refusal None))) (silent x)

-- Returns the result of the line l in tables x.
unfoldable pub result_of : Tables → List ℕ → Result
result_of x l = line_result x (line_of l)

-- ---- A script

-- Holds a run between two lines: how many lines were read, refused ones among them, and the tables after them.
pub record Run : Type 0 where
  pub lines : ℕ
  pub tables : Tables

-- This is the run before the first line, with the empty tables.
abbrev pub begin : Run
begin = record { lines = 0; tables = empty }

-- Returns the run after the line l.
unfoldable pub after : Run → List ℕ → Run
after r l = record { lines = r.lines + 1; tables = (result_of r.tables l).tables }

-- Returns the answer that is printed for the result of line n.
abbrev pub result_text : ℕ → Result → List ℕ
result_text n a = reply_text n (printed a.reply) ++ cycles_text a.cycles

-- Returns the answer to the line l, which is the next one of the run r.
unfoldable pub line_text : Run → List ℕ → List ℕ
line_text r l = result_text (r.lines + 1) (result_of r.tables l)

-- Returns the `end` line with the totals of a run: lines read, edges stored, stuck threads.
unfoldable pub last_text : Run → List ℕ
last_text r = end_text r.lines (edge_count r.tables.waits.wait_for_graph.edges) (stuck_count r.tables)

-- Returns what is printed for the lines from the run r on, and at their end.
unfoldable pub text_of : Run → List (List ℕ) → List ℕ
text_of r [] = last_text r
text_of r (l ∷ ls) = cond (ltb r.lines limit) (line_text r l ++ text_of (after r l) ls) (last_text r)

-- Returns what is printed for the script t.
unfoldable pub replay_text : List ℕ → List ℕ
replay_text t = text_of begin (lines_of t)
