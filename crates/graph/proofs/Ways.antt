-- Laws of walks, cycles, paths and rings, in any relation.
use mathlib.Core.Path.{refl, sym, subst}
use mathlib.Core.Logic.{◌⊎◌, inl, inr}
use mathlib.Core.List.{List, [], ◌∷◌}
use Prim.Native.Nat.{ℕ}
use Rattle.graph.specs.Ways.{Rel, Walk, stop, step, Cycle, Acyclic, Within, Plus, Chain, Leads, Round, Ring}

-- A relation that is acyclic has no cycle.
pub no_cycle : (E : Rel) → Acyclic E → Cycle E → ⊥
no_cycle E h c = h c.from c.to c.edge c.back

-- ---- Walks

-- A walk in E is one in any relation that has its edges.
pub walk_map : (E F : Rel) → Within E F → {a b : ℕ} → Walk E a b → Walk F a b
walk_map E F h (stop e) = stop e
walk_map E F h (step {a} {c} e w) = step (h a c e) (walk_map E F h w)

-- Two walks, of which the second starts where the first ends, are one.
pub walk_join : (E : Rel) {a b c : ℕ} → Walk E a b → Walk E b c → Walk E a c
walk_join E {a} {b} {c} (stop e) w = subst (λ (x : ℕ). Walk E x c) (sym e) w
walk_join E (step e u) w = step e (walk_join E u w)

-- A relation with fewer edges has no cycle either.
pub acyclic_within : (E F : Rel) → Within E F → Acyclic F → Acyclic E
acyclic_within E F h k a c e w = k a c (h a c e) (walk_map E F h w)

-- ---- One edge more

-- A walk in E with an edge from s to t does without that edge, or is made of a walk to s and one from t.
pub walk_plus : (E : Rel) (s t : ℕ) {a b : ℕ} → Walk (Plus E s t) a b → Walk E a b ⊎ (Walk E a s × Walk E t b)
walk_plus E s t (stop e) = inl (stop e)
walk_plus E s t (step {a} {c} {b} e w) = go e (walk_plus E s t w)
  where
    go : Plus E s t a c → Walk E c b ⊎ (Walk E c s × Walk E t b) → Walk E a b ⊎ (Walk E a s × Walk E t b)
    go (inl e) (inl u) = inl (step e u)
    go (inl e) (inr p) = inr (step e p.0, p.1)
    go (inr q) (inl u) = inr (stop q.0, subst (λ (x : ℕ). Walk E x b) q.1 u)
    go (inr q) (inr p) = inr (stop q.0, p.1)

-- An edge from s to t closes no cycle if no walk leads from t to s.
pub acyclic_plus : (E : Rel) (s t : ℕ) → Acyclic E → (Walk E t s → ⊥) → Acyclic (Plus E s t)
acyclic_plus E s t h n a c (inl e) w = go (walk_plus E s t w)
  where
    go : Walk E c a ⊎ (Walk E c s × Walk E t a) → ⊥
    go (inl u) = h a c e u
    go (inr p) = n (walk_join E p.1 (step e p.0))
acyclic_plus E s t h n a c (inr q) w = go (walk_plus E s t w)
  where
    go : Walk E c a ⊎ (Walk E c s × Walk E t a) → ⊥
    go (inl u) = n (subst (λ (x : ℕ). Walk E x s) q.1 (subst (λ (x : ℕ). Walk E c x) q.0 u))
    go (inr p) = n (subst (λ (x : ℕ). Walk E x s) q.1 p.0)

-- ---- Paths

-- A path is a walk, and it is a path in any relation that has its edges.
pub chain_walk : (E : Rel) (a : ℕ) (r : List ℕ) (b : ℕ) → Chain E a r b → Walk E a b
chain_walk E a [] b e = stop e
chain_walk E a (c ∷ r) b k = step k.0 (chain_walk E c r b k.1)

pub leads_walk : (E : Rel) (a b : ℕ) (p : List ℕ) → Leads E a b p → Walk E a b
leads_walk E a b [] k = elim k [ ]
leads_walk E a b (x ∷ r) k = subst (λ (y : ℕ). Walk E y b) k.0 (chain_walk E x r b k.1)

pub chain_map : (E F : Rel) → Within E F → (a : ℕ) (r : List ℕ) (b : ℕ) → Chain E a r b → Chain F a r b
chain_map E F h a [] b e = e
chain_map E F h a (c ∷ r) b k = (h a c k.0, chain_map E F h c r b k.1)

pub leads_map : (E F : Rel) → Within E F → (a b : ℕ) (p : List ℕ) → Leads E a b p → Leads F a b p
leads_map E F h a b [] k = elim k [ ]
leads_map E F h a b (x ∷ r) k = (k.0, chain_map E F h x r b k.1)

-- ---- Rings

-- A ring is one in any relation that has its edges.
pub round_map : (E F : Rel) → Within E F → (first a : ℕ) (r : List ℕ) → Round E first a r → Round F first a r
round_map E F h first a [] e = h a first e
round_map E F h first a (b ∷ r) k = (h a b k.0, round_map E F h first b r k.1)

pub ring_map : (E F : Rel) → Within E F → (l : List ℕ) → Ring E l → Ring F l
ring_map E F h [] k = elim k [ ]
ring_map E F h (a ∷ r) k = round_map E F h a a r k

round_walk : (E : Rel) (first a : ℕ) (r : List ℕ) → Round E first a r → (c : ℕ) × E a c × Walk E c first
round_walk E first a [] e = (first, e, stop refl)
round_walk E first a (b ∷ r) k = let w = round_walk E first b r k.1 in (b, k.0, step w.1 w.2)

-- A ring is a cycle.
pub ring_cycle : (E : Rel) (l : List ℕ) → Ring E l → Cycle E
ring_cycle E [] k = elim k [ ]
ring_cycle E (a ∷ r) k = let w = round_walk E a a r k in record { from = a; to = w.0; edge = w.1; back = w.2 }

-- A path from a to b and an edge from b to a make a ring.
chain_round : (E : Rel) (first a : ℕ) (r : List ℕ) (b : ℕ) → Chain E a r b → E b first → Round E first a r
chain_round E first a [] b e h = subst (λ (x : ℕ). E x first) (sym e) h
chain_round E first a (c ∷ r) b k h = (k.0, chain_round E first c r b k.1 h)

pub leads_ring : (E : Rel) (a b : ℕ) (p : List ℕ) → Leads E a b p → E b a → Ring E p
leads_ring E a b [] k h = elim k [ ]
leads_ring E a b (x ∷ r) k h = chain_round E x x r b k.1 (subst (λ (y : ℕ). E b y) (sym k.0) h)
