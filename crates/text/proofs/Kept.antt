-- The first bytes of a line, as they are carried.
use mathlib.Core.Path.{◌≡◌, sym, ap, ◌∙◌}
use mathlib.Core.List.{List, ◌++◌}
use Prim.Native.Nat.{ℕ, ◌+◌, ◌-◌, ◌≤◌, min}
use native.Mathlib.Omega.{arith}
use borrow.Rule.Slice.PartMut.{put_mid}
use lib.ListN.{length, take, length-take}
use lib.Seq.{take-append-add}
use Rattle.std.proofs.lemmas.List.{take_min}
use Rattle.std.proofs.lemmas.Slice.{take-put_mid}
use Rattle.text.specs.Lines.{carry_bytes}

-- Here x is the beginning of the part, as long as there is room for it, and stands after the h bytes carried already.
module _ (carry part x : List ℕ) (h n k : ℕ) (w : h ≤ carry_bytes) (l : length carry ≡ carry_bytes) (m : n ≡ min (carry_bytes - h) (length part)) (e : x ≡ take n part) where
  pub kept : take (h + n) (put_mid h k carry x) ≡ take carry_bytes (take h carry ++ part)
  kept =
      let i : length (take h carry) ≡ h = omega (arith, length-take h carry) in
      let j : length (take h carry) + (carry_bytes - h) ≡ carry_bytes = omega arith in
      let u : x ≡ take (carry_bytes - h) part = e ∙ ap (λ (o : ℕ). take o part) m ∙ take_min (carry_bytes - h) part in
      let v : h + n ≡ h + length x = omega (arith, ap length e, length-take n part) in
      take-put_mid h k carry x (h + n) v (omega arith)
      ∙ ap (λ (o : List ℕ). take h carry ++ o) u
      ∙ sym (take-append-add (take h carry) part (carry_bytes - h))
      ∙ ap (λ (o : ℕ). take o (take h carry ++ part)) j
