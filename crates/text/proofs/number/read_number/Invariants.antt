use mathlib.Core.Path.{◌≡◌}
use Prim.Native.Nat.{◌<◌, ◌≤◌, ◌^◌}
use lib.ListN.{length, drop}
use Rattle.text.specs.Numbers.{number_of, digits_from}
use Rattle.text.proofs.number.read_number.Given as goal

-- Reading the digits that are left, with the value so far, gives the number.
abbrev pub invariant-loop-b : goal.invariant-loop-b
invariant-loop-b l = (length l.s ≤ 3) × (l.v < 10 ^ l.b-index) × (digits_from l.v (drop l.b-index l.s) ≡ number_of l.s)
