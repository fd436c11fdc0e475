-- THE READER COUNTS, by thread and lock.
use Rattle.std.specs.Prelude.{List, Bool, not, ℕ, ◌+◌, ◌*◌, ◌-◌, eqb, get_or, set}
use Rattle.sets.specs.Limits.{THREADS, LOCKS}
use Rattle.sets.specs.Below.{those, each}

-- How many reader counts there are: one for each lock and thread.
abbrev pub COUNTS : ℕ
COUNTS = LOCKS * THREADS

-- Returns the place of the count of thread t and lock l.
abbrev pub place : ℕ → ℕ → ℕ
place t l = l * THREADS + t

-- Returns how often thread t reads lock l.
abbrev pub count_of : List ℕ → ℕ → ℕ → ℕ
count_of counts t l = get_or counts (place t l) 0

-- Returns true if thread t reads lock l.
abbrev pub reads : List ℕ → ℕ → ℕ → Bool
reads counts t l = not (eqb (count_of counts t l) 0)

-- Returns the readers of l, upward.
unfoldable pub readers : List ℕ → ℕ → List ℕ
readers counts l = those (λ t. reads counts t l) THREADS

-- Returns the counts with n for thread t and lock l.
abbrev pub set_count : List ℕ → ℕ → ℕ → ℕ → List ℕ
set_count counts t l n = set counts (place t l) n

-- Returns the counts with one more read of l by t.
unfoldable pub count_up : List ℕ → ℕ → ℕ → List ℕ
count_up counts t l = set_count counts t l (count_of counts t l + 1)

-- Returns the counts with one read less of l by t. A count of 0 stays 0.
unfoldable pub count_down : List ℕ → ℕ → ℕ → List ℕ
count_down counts t l = set_count counts t l (count_of counts t l - 1)

-- Returns the counts with no readers of l.
unfoldable pub no_readers : List ℕ → ℕ → List ℕ
no_readers counts l = each (λ d t. set_count d t l 0) counts THREADS
