-- What the 32 places of a path hold.
use mathlib.Core.Path.{◌≡◌, refl, sym, ap, ◌∙◌}
use mathlib.Core.List.{List, [], ◌∷◌, ◌++◌}
use Prim.Native.Nat.{ℕ, suc, ◌+◌, ◌-◌, ◌<◌}
use native.Mathlib.Omega.{arith}
use lib.ListN.{length, replicate, set, take, length-append}
use lib.Seq.{set-append_seam, append_snoc, take-append_seam}
use Rattle.std.specs.Prelude.{Option, None, Some}
use Rattle.std.specs.Option.{option_map}
use Rattle.graph.specs.Code.{places_of}

-- One thread more, put at the first free place, gives the places of the longer path.
pub places_more : (p : List ℕ) (t : ℕ) → length p < 32 → set (places_of p) (length p) t ≡ places_of (p ++ t ∷ [])
places_more p t h =
    let e : 32 - length p ≡ suc (32 - (length p + 1)) = omega arith in
    let n : 32 - length (p ++ t ∷ []) ≡ 32 - (length p + 1) = omega (arith, length-append p (t ∷ [])) in
    rw (e, n) (set-append_seam p 0 (replicate (32 - (length p + 1)) 0) t ∙ sym (append_snoc p t (replicate (32 - (length p + 1)) 0)))

-- A path's places give the path back.
pub places_back : (p : List ℕ) → take (length p) (places_of p) ≡ p
places_back p = take-append_seam p (replicate (32 - length p) 0)

-- So the places of what a search found give back what it found.
pub found_in_lem : (o : Option (List ℕ)) → option_map (λ p. take (length p) (places_of p)) o ≡ o
found_in_lem None = refl
found_in_lem (Some p) = ap Some (places_back p)
