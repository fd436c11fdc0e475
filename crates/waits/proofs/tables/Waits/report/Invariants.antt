use mathlib.Core.Path.{◌≡◌}
use Prim.Native.Nat.{◌+◌, ◌*◌}
use lib.ListN.{drop}
use Rattle.waits.specs.Report.{entry_bytes}
use Rattle.waits.specs.Promises.{laid}
use Rattle.waits.proofs.Judging.{entered_by}
use Rattle.waits.proofs.tables.Waits.report.Given as goal

abbrev pub invariant-loop-t : goal.invariant-loop-t
invariant-loop-t l =
    (l.at ≡ l.from + 1 + entry_bytes * l.t-index)
    × (laid l.buf l.at (entered_by l.self (drop l.t-index l.threads)) ≡ laid l.initial.buf (l.from + 1) (entered_by l.self l.cycle))
