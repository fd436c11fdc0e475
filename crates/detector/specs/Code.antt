-- What the code does in its own records.
use Rattle.std.specs.Prelude.{List, [], ◌∷◌, cond, ℕ, eqb, set, replicate}
use Rattle.sets.specs.Limits.{NOBODY}
use Rattle.graph.specs.Search.{row}
use Rattle.detector.specs.Limits.{PLACES}
use Rattle.detector.specs.Tables.{no_pair}
use Rattle.waits.specs.declared.tables.Waits.{Waits}
use Rattle.detector.specs.declared.state.Pair.{Pair}
use Rattle.detector.specs.declared.state.Queue.{Queue}
use Rattle.detector.specs.declared.state.Detector.{Detector}

-- Returns the state with other waits.
abbrev pub put_waits : Detector → Waits → Detector
put_waits d w = record { waits = w; cv_woken = d.cv_woken; rwlock_readers = d.rwlock_readers; condvars = d.condvars }

-- Returns the state with other waits, and with m as the woken threads.
abbrev pub put_woken : Detector → Waits → ℕ → Detector
put_woken d w m = record { waits = w; cv_woken = m; rwlock_readers = d.rwlock_readers; condvars = d.condvars }

-- Returns the empty queue, with 0 at every place.
abbrev pub empty_queue : Queue
empty_queue = record { pairs = replicate PLACES no_pair; len = 0 }

-- Returns the owners, or the writers, with nobody for the lock l if t was there.
abbrev pub disowned : List ℕ → ℕ → ℕ → List ℕ
disowned owners t l = cond (eqb (row owners l) t) (set owners l NOBODY) owners

-- Returns the pairs without the first one.
abbrev pub tail_of : List Pair → List Pair
tail_of [] = []
tail_of (p ∷ q) = q
