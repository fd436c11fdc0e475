-- VALIDATE. A cycle is valid if it has a thread, and every thread truly waits for the one after it, the last one for
-- the first.
use Rattle.std.specs.Prelude.{List, [], ◌∷◌, Bool, true, false, cond, ℕ, eqb, Option, None, Some}
use Rattle.sets.specs.Limits.{LOCKS}
use Rattle.sets.specs.Below.{those}
use Rattle.waits.specs.Tables.{intent_of}
use Rattle.waits.specs.Owners.{waits_for}
use Rattle.waits.specs.Waiting.{Linking, refresh_locks}
use Rattle.waits.specs.Report.{Judging, quiet, reporting}
use Rattle.waits.specs.declared.tables.Waits.{Waits}
use Rattle.waits.specs.declared.intent.WaitIntent.{WaitIntent}

-- Returns true if a truly waits for the first thread of r, each thread of r for the next, and the last one for f.
unfoldable pub around : List ℕ → Waits → ℕ → ℕ → List ℕ → Bool
around counts w f a [] = waits_for counts w a f
around counts w f a (b ∷ r) = cond (waits_for counts w a b) (around counts w f b r) false

-- Returns true if the cycle is valid in these tables.
unfoldable pub valid : List ℕ → Waits → List ℕ → Bool
valid counts w [] = false
valid counts w (a ∷ r) = around counts w a a r

-- Returns true if the intent names l.
abbrev pub names : Option WaitIntent → ℕ → Bool
names None l = false
names (Some i) l = eqb i.lock_id l

-- Returns true if a thread of p awaits l.
unfoldable pub some_awaits : Waits → List ℕ → ℕ → Bool
some_awaits w [] l = false
some_awaits w (t ∷ p) l = cond (names (intent_of w t) l) true (some_awaits w p l)

-- Returns the locks that the threads of p await, upward and without repeats.
unfoldable pub awaited_locks : Waits → List ℕ → List ℕ
awaited_locks w p = those (some_awaits w p) LOCKS

-- Reports the path if it is valid. It is not filtered, and nothing more is refreshed.
unfoldable pub checked : List ℕ → Waits → Option (List ℕ) → Judging
checked counts w None = quiet w
checked counts w (Some p) = cond (valid counts w p) (reporting w p) (quiet w)

-- Does this with the path that a refresh found.
abbrev pub again : List ℕ → Linking → Judging
again counts s = checked counts s.waits s.found

-- Reports the cycle p if it is valid. If not, refreshes the locks that its threads await, and reports the first path
-- found by all these refreshes if that is valid after the last one.
unfoldable pub validate : List ℕ → Waits → List ℕ → Judging
validate counts w p = cond (valid counts w p) (reporting w p) (again counts (refresh_locks counts w (awaited_locks w p)))
