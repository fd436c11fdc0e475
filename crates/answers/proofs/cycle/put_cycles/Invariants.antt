use mathlib.Core.Path.{◌≡◌}
use Prim.Native.Nat.{◌+◌, ◌-◌}
use lib.ListN.{drop}
use Rattle.text.proofs.Puts.{Done}
use Rattle.answers.specs.Answers.{cycles_text}
use Rattle.answers.specs.Reports.{reports_in, reports_size}
use Rattle.answers.proofs.cycle.put_cycles.Given as goal

-- The lines of the reports that are left are still to be put.
abbrev pub invariant-loop : goal.invariant-loop
invariant-loop l =
    Done (cycles_text (reports_in l.reports l.buf)) (cycles_text (reports_in (l.reports - l.counter) (drop l.p l.buf))) l.initial.out l.at l.out l.to
    × (l.p + reports_size (l.reports - l.counter) (drop l.p l.buf) ≡ reports_size l.reports l.buf)
