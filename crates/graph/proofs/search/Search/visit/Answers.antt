use Prim.Native.Nat.{ℕ, ◌<◌, ◌+◌}
use mathlib.Core.List.{List, [], ◌∷◌, ◌++◌}
use mathlib.Core.Path.{◌≡◌, sym, ◌∙◌, subst}
use lib.ListN.{length, set, take, length-set}
use native.Mathlib.Omega.{arith}
use Rattle.std.proofs.lemmas.List.{map-append, take_more_set}
use Rattle.graph.specs.Search.{Trail, visit}
use Rattle.graph.specs.declared.search.Found.{Found}
use Rattle.graph.proofs.Trails.{found_length, room, sound_more}
use Rattle.graph.proofs.search.Search.visit.Goals as goal

-- The first count + 1 threads found are the first count ones and the one that is put behind them.
grown : (fs : List Found) (n : ℕ) (f : Found) → n < 32 → length fs ≡ 32 → take (n + 1) (set fs n f) ≡ take n fs ++ f ∷ []
grown fs n f h e = take_more_set fs n f (omega (arith, e))

pub bounds-self-inside-self-inside : goal.bounds-self-inside-self-inside
bounds-self-inside-self-inside c =
    let i = c.self.inside in
    let h = c.self.invariant in
    subst (λ (n : ℕ). n < 32) (found_length i.found i.count i.seen h.0 h.1)
    (room _ c.args.n c.args.p h.2 c.requires.0 (sym c.has.ensures ∙ c.if-not-has.true))

pub invariant_of-self : goal.invariant_of-self
invariant_of-self c =
    let i = c.self.inside in
    let h = c.self.invariant in
    let f = sym c.has.ensures ∙ c.if-not-has.true in
    let b : i.count < 32 = subst (λ (n : ℕ). n < 32) (found_length i.found i.count i.seen h.0 h.1) (room _ c.args.n c.args.p h.2 c.requires.0 f) in (
      omega (arith, b),
      length-set i.found i.count _ ∙ h.1,
      rw (grown i.found i.count _ b h.1, map-append, map-append, c.with-self-inside.ensures)
          (sound_more _ c.args.n c.args.p h.2 c.requires.0 f (subst (λ (t : Trail). c.args.p < length t.threads) (sym c.self.view_is) c.requires.1)),
    )

pub returns-then-not-has : goal.returns-then-not-has
unfolding visit
returns-then-not-has c =
    let i = c.self.inside in
    let h = c.self.invariant in
    let f = sym c.has.ensures ∙ c.if-not-has.true in
    let b : i.count < 32 = subst (λ (n : ℕ). n < 32) (found_length i.found i.count i.seen h.0 h.1) (room _ c.args.n c.args.p h.2 c.requires.0 f) in
    rw (← c.self.view_is, grown i.found i.count _ b h.1, map-append, map-append, c.with-self-inside.ensures, f)

pub returns-else-not-has : goal.returns-else-not-has
unfolding visit
returns-else-not-has c =
    let f = sym c.has.ensures ∙ c.if-not-has.false in
    rw (← c.self.view_is, f)
