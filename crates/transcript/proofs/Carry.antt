-- The carry of a line reads as the whole line does.
use mathlib.Core.Path.{◌≡◌, ap, ◌∙◌}
use mathlib.Core.List.{List}
use Prim.Native.Nat.{ℕ}
use lib.ListN.{take}
use Rattle.text.specs.Lines.{carry_bytes}
use Rattle.script.specs.Lines.{line_of}
use Rattle.script.proofs.Steps.{line_cut}

pub kept_line : (q p : List ℕ) → q ≡ take carry_bytes p → line_of q ≡ line_of p
kept_line q p e = ap line_of e ∙ line_cut p
