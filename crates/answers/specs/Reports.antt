-- The reports in the report buffer. A report is a byte with the number of its entries and then two bytes for each
-- entry, its thread and the lock that this thread awaits. The first report starts at the buffer's first byte.
use Rattle.std.specs.Prelude.{ℕ, zero, suc, ◌+◌, ◌*◌, List, [], ◌∷◌, ◌++◌, drop, get_or}
use Rattle.waits.specs.Report.{Entry, entry_bytes, cycle_bytes}

-- Returns the entry that b starts with.
abbrev pub entry_in : List ℕ → Entry
entry_in b = record { thread = get_or b 0 0; lock = get_or b 1 0 }

-- Returns the first n entries of b.
unfoldable pub entries_in : ℕ → List ℕ → List Entry
entries_in zero b = []
entries_in (suc n) b = entry_in b ∷ entries_in n (drop entry_bytes b)

-- Returns the entries of the report that b starts with.
abbrev pub report_in : List ℕ → List Entry
report_in b = entries_in (get_or b 0 0) (drop 1 b)

-- Returns how many bytes the report takes that b starts with.
abbrev pub report_size : List ℕ → ℕ
report_size b = 1 + entry_bytes * get_or b 0 0

-- Returns the first r reports of b, each as its entries.
unfoldable pub reports_in : ℕ → List ℕ → List (List Entry)
reports_in zero b = []
reports_in (suc r) b = report_in b ∷ reports_in r (drop (report_size b) b)

-- Returns how many bytes the first r reports of b take.
unfoldable pub reports_size : ℕ → List ℕ → ℕ
reports_size zero b = 0
reports_size (suc r) b = report_size b + reports_size r (drop (report_size b) b)

-- Returns the bytes of reports that are given as their entries.
unfoldable pub reports_bytes : List (List Entry) → List ℕ
reports_bytes [] = []
reports_bytes (es ∷ rs) = cycle_bytes es ++ reports_bytes rs
