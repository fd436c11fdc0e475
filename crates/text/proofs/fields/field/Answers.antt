use mathlib.Core.List.{List}
use mathlib.Core.Path.{◌≡◌, ap, ◌∙◌}
use Prim.Native.Nat.{ℕ, ◌-◌}
use native.Mathlib.Omega.{arith}
use lib.ListN.{length, take, drop}
use Rattle.text.proofs.Cut.{take_up_to}
use Rattle.text.specs.Bytes.{tab}
use Rattle.text.specs.Fields.{up_to, field_at}
use Rattle.text.proofs.fields.field.Goals as goal

pub returns : goal.returns
unfolding field_at
returns c =
    let l : List ℕ = c.args.line.now in
    let a : ℕ = c.args.a in
    let h : c.up_to-e.result - a ≡ length (up_to tab (drop a l)) = omega arith in
    ap (λ (k : ℕ). take k (drop a l)) h ∙ take_up_to tab (drop a l)
