-- REPORT. A report starts with a byte that counts its entries. Each entry has two bytes, a thread and the lock it
-- awaits, and the entries are in the order of the cycle.
use Rattle.std.specs.Prelude.{List, [], ◌∷◌, ◌++◌, map, ℕ, ◌+◌, ◌*◌, length}
use Rattle.sets.specs.Limits.{THREADS}
use Rattle.waits.specs.Tables.{intent_of, lock_of}
use Rattle.waits.specs.declared.tables.Waits.{Waits}

-- A report has the threads of a cycle, and the tables in which the cycle was last validated.
pub record Report : Type 0 where
  pub threads : List ℕ
  pub state : Waits

-- Returns the report of the cycle p in the tables w.
abbrev pub report : Waits → List ℕ → Report
report w p = record { threads = p; state = w }

-- An entry is a thread of the cycle and the lock it awaits.
pub record Entry : Type 0 where
  pub thread : ℕ
  pub lock : ℕ

-- Returns the entry of thread t: its lock is the one that t's intent names, or 0 if there is none.
abbrev pub entry_of : Waits → ℕ → Entry
entry_of w t = record { thread = t; lock = lock_of (intent_of w t) }

-- Returns the entries of a report, in the order of the cycle.
abbrev pub entries_of : Report → List Entry
entries_of r = map (entry_of r.state) r.threads

-- Returns the bytes of an entry.
abbrev pub entry_text : Entry → List ℕ
entry_text e = e.thread ∷ e.lock ∷ []

-- How many bytes an entry has.
abbrev pub entry_bytes : ℕ
entry_bytes = 2

-- Returns the bytes of the entries, one after the other.
unfoldable pub entries_text : List Entry → List ℕ
entries_text [] = []
entries_text (e ∷ es) = entry_text e ++ entries_text es

-- Returns the number of entries, then their bytes.
abbrev pub cycle_bytes : List Entry → List ℕ
cycle_bytes es = length es ∷ entries_text es

-- Returns the bytes of a report.
unfoldable pub bytes_of : Report → List ℕ
bytes_of r = cycle_bytes (entries_of r)

-- How many bytes the longest report has: the number of its entries, and 32 entries.
abbrev pub report_bytes : ℕ
report_bytes = 1 + THREADS * entry_bytes

-- Returns the bytes of several reports, one after the other.
unfoldable pub written : List Report → List ℕ
written [] = []
written (r ∷ rs) = bytes_of r ++ written rs

-- The tables after a path was judged, and the reports.
pub record Judging : Type 0 where
  pub waits : Waits
  pub reports : List Report

-- Returns these tables with no report.
abbrev pub quiet : Waits → Judging
quiet w = record { waits = w; reports = [] }

-- Returns these tables with a report of the cycle p.
abbrev pub reporting : Waits → List ℕ → Judging
reporting w p = record { waits = w; reports = report w p ∷ [] }
