-- How many threads and locks there are, and the number that stands for no thread.
use Rattle.std.specs.Prelude.{ℕ}

-- The threads are numbered from 0 to 31.
abbrev pub THREADS : ℕ
THREADS = 32

-- The locks are numbered from 0 to 63.
abbrev pub LOCKS : ℕ
LOCKS = 64

-- Stands for no thread wherever a table names one thread.
abbrev pub NOBODY : ℕ
NOBODY = THREADS
