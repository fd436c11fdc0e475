use mathlib.Core.List.{foldl}
use mathlib.Core.Path.{◌≡◌}
use Rattle.sets.specs.Sets.{upward}
use Rattle.waits.specs.Tables.{InRange}
use Rattle.waits.specs.Waiting.{refresh_next, refresh_locks}
use Rattle.waits.specs.Code.{linked}
use Rattle.waits.proofs.tables.Waits.refresh_all.Given as goal

abbrev pub invariant-loop-l : goal.invariant-loop-l
invariant-loop-l l =
    InRange l.self
    × (foldl (refresh_next l.counts) (linked l.self l.found) (upward 64 l.l-iterator.left) ≡ refresh_locks l.counts l.initial.self (upward 64 l.set))
