use Prim.Native.Nat.{ℕ, ◌+◌, ◌<◌}
use mathlib.Core.List.{List, [], ◌∷◌, ◌++◌}
use mathlib.Core.Path.{◌≡◌, sym, ◌∙◌, ap₂, subst}
use lib.ListN.{length, set, take, length-set}
use lib.Seq.{length-take-le}
use native.Mathlib.Omega.{arith}
use Rattle.std.proofs.lemmas.List.{take_more_set}
use Rattle.graph.proofs.Trails.{small_nil, small_cons, small_append}
use Rattle.graph.proofs.Places.{places_more}
use Rattle.graph.proofs.path.Path.push.Goals as goal

pub invariant_of-self : goal.invariant_of-self
invariant_of-self c =
    let i = c.self.inside in
    let t = c.args.thread in
    let h = c.self.invariant in
    let n : length (take i.len i.places) ≡ i.len = length-take-le i.len i.places (omega (arith, h.0, h.1)) in
    let below : i.len < 32 = omega (arith, n, subst (λ (p : List ℕ). length p < 32) (sym c.self.view_is) c.requires.0) in
    let grown : take (i.len + 1) (set i.places i.len t) ≡ take i.len i.places ++ t ∷ [] =
    take_more_set i.places i.len t (omega (arith, h.1, below))
    in
    let more = places_more (take i.len i.places) t (omega (arith, n, below)) in (
      omega (arith, below),
      length-set i.places i.len t ∙ h.1,
      rw grown (sym more ∙ ap₂ (λ (ps : List ℕ) (k : ℕ). set ps k t) h.2 n),
      rw grown (small_append (take i.len i.places) (t ∷ []) h.3 (small_cons t [] c.requires.1 small_nil)),
    )
