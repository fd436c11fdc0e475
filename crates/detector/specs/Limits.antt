-- How many condvars there are, the number that stands for no condvar, and how many places a queue has.
use Rattle.std.specs.Prelude.{ℕ}

-- The condvars are numbered from 0 to 15.
abbrev pub CONDVARS : ℕ
CONDVARS = 16

-- Stands for no condvar.
abbrev pub NONE : ℕ
NONE = CONDVARS

-- How many pairs a queue has room for.
abbrev pub PLACES : ℕ
PLACES = 32
