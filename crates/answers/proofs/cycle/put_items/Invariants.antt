use Prim.Native.Nat.{◌+◌, ◌*◌, ◌-◌}
use lib.ListN.{drop}
use Rattle.text.proofs.Puts.{Done}
use Rattle.answers.specs.Answers.{items_text}
use Rattle.waits.specs.Report.{entry_bytes}
use Rattle.answers.specs.Reports.{entries_in}
use Rattle.answers.proofs.cycle.put_items.Given as goal

-- The items of the entries from the i-th on are still to be put.
abbrev pub invariant-loop-i : goal.invariant-loop-i
invariant-loop-i l =
    Done (items_text (entries_in l.n (drop l.from l.buf))) (items_text (entries_in (l.n - l.i) (drop (l.from + entry_bytes * l.i) l.buf))) l.initial.out l.at l.out l.to
