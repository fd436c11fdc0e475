-- What registering does to a graph: it adds edges from t to owners in order, leaves out each that would close a cycle,
-- and keeps the first path.
use mathlib.Core.Path.{◌≡◌, refl, sym, ap, ◌∙◌, subst, subst₂}
use mathlib.Core.Logic.{◌⊎◌, inl, inr, ◌↔◌}
use mathlib.Core.List.{List, [], ◌∷◌, foldl}
use Rattle.std.specs.Prelude.{Option, None, Some}
use Rattle.std.proofs.lemmas.Option.{same_Some}
use Prim.Native.Nat.{ℕ, ◌<◌}
use Rattle.sets.specs.Lists.{In, Distinct}
use Rattle.graph.specs.Ways.{Walk, Within, Acyclic, Cycle, Plus, Fan, Ring, Found}
use Rattle.graph.specs.Graph.{Adding, adding, stored, add_edge, first, add_next, add_owners, Edge, Sized, Good}
use Rattle.graph.specs.declared.wait_for_graph.WaitForGraph.{WaitForGraph}
use Rattle.graph.proofs.Ways.{walk_map, walk_plus, acyclic_within, leads_ring, leads_walk, leads_map}
use Rattle.graph.proofs.Paths.{none_some}
use Rattle.graph.proofs.Good.{add_cases, stored_edge, sized_stored, good_add}

-- ---- The walk over the owners, from its front

-- Adds an edge from t to each of the owners, with the first path of all.
add_all : ℕ → WaitForGraph → List ℕ → Adding
add_all t g [] = adding g None
add_all t g (o ∷ os) =
    let r = add_edge g t o in
    let s = add_all t r.graph os in
    adding s.graph (first r.found s.found)

-- Of three paths the first is the same, whichever two are looked at together.
first_assoc : (p q r : Option (List ℕ)) → first (first p q) r ≡ first p (first q r)
first_assoc (Some p) q r = refl
first_assoc None q r = refl

-- The rule's walk, which goes on from a result, is this one.
fold_all : (t : ℕ) (os : List ℕ) (k : Adding) → foldl (add_next t) k os ≡ adding (add_all t k.graph os).graph (first k.found (add_all t k.graph os).found)
unfolding add_next add_all
fold_all t [] k = ap (adding k.graph) (go k.found)
  where
    go : (p : Option (List ℕ)) → p ≡ first p None
    go (Some p) = refl
    go None = refl
fold_all t (o ∷ os) k =
    let r = add_edge k.graph t o in
    fold_all t os (add_next t k o) ∙ ap (adding (add_all t r.graph os).graph) (first_assoc k.found r.found (add_all t r.graph os).found)

owners_all : (t : ℕ) (g : WaitForGraph) (os : List ℕ) → add_owners t g os ≡ add_all t g os
unfolding add_owners
owners_all t g os = fold_all t os (adding g None)

-- If `first` gives none, both are none; if it gives a path, that is the first one, or the second if the first is none.
first_none : (p q : Option (List ℕ)) → first p q ≡ None → (p ≡ None) × (q ≡ None)
first_none None q e = (refl, e)
first_none (Some p) q e = absurd (none_some (sym e))

first_some : (p q : Option (List ℕ)) (r : List ℕ) → first p q ≡ Some r → (p ≡ Some r) ⊎ ((p ≡ None) × (q ≡ Some r))
first_some None q r e = inr (refl, e)
first_some (Some p) q r e = inl e

-- States that every owner is below 32.
abbrev pub Owned : List ℕ → Type 0
Owned os = (o : ℕ) → In o os → o < 32

-- ---- What adding one edge does

-- States what adding the edge from t to o does: no edge goes, only this one may come, it comes if no walk leads from o
-- to t, and a path that is found leads from o to t.
record Grown (t o : ℕ) (g : WaitForGraph) (r : Adding) : Type 0 where
  pub keeps : Within (Edge g.edges) (Edge r.graph.edges)
  pub only : Within (Edge r.graph.edges) (Plus (Edge g.edges) t o)
  pub quiet : r.found ≡ None → Edge r.graph.edges t o
  pub loud : (p : List ℕ) → r.found ≡ Some p → Found (Edge g.edges) o t p
  pub free : (Walk (Edge g.edges) o t → ⊥) → Edge r.graph.edges t o
  pub shut : Edge r.graph.edges t o → Edge g.edges t o ⊎ (Walk (Edge g.edges) o t → ⊥)

-- Adding an edge does this.
grown : (t o : ℕ) (g : WaitForGraph) → Sized g → t < 32 → o < 32 → Grown t o g (add_edge g t o)
grown t o g s j h = add_cases g t o s h (Grown t o g)
    (λ e. record { keeps = λ x y e. e; only = λ x y e. inl e; quiet = λ q. e; loud = λ p q. absurd (none_some q); free = λ w. e; shut = λ e. inl e })
    (λ p f. record {
      keeps = λ x y e. e;
      only = λ x y e. inl e;
      quiet = λ q. absurd (none_some (sym q));
      loud = λ p' q. subst (λ (l : List ℕ). Found (Edge g.edges) o t l) (same_Some p p' q) f;
      free = λ w. absurd (w (leads_walk (Edge g.edges) o t p f.leads));
      shut = λ e. inl e;
    })
    (λ w. record {
      keeps = λ x y e. (law x y).1 (inl e);
      only = λ x y e. (law x y).0 e;
      quiet = λ q. (law t o).1 (inr (refl, refl));
      loud = λ p q. absurd (none_some q);
      free = λ w. (law t o).1 (inr (refl, refl));
      shut = λ e. inr w;
    })
  where
    law : (x y : ℕ) → Edge (stored g t o).edges x y ↔ Plus (Edge g.edges) t o x y
    law = stored_edge g t o s j

-- It keeps the size of the tables.
pub sized_add : (g : WaitForGraph) (t o : ℕ) → t < 32 → o < 32 → Sized g → Sized (add_edge g t o).graph
sized_add g t o j h s = add_cases g t o s h (λ r. Sized r.graph) (λ e. s) (λ p f. s) (λ w. sized_stored g t o j h s)

module _ (t : ℕ) (j : t < 32) where
  sized_all : (os : List ℕ) (g : WaitForGraph) → Owned os → Sized g → Sized (add_all t g os).graph
  unfolding add_all
  sized_all [] g h s = s
  sized_all (o ∷ os) g h s = sized_all os (add_edge g t o).graph (λ p m. h p (inr m)) (sized_add g t o j (h o (inl refl)) s)

  good_all : (os : List ℕ) (g : WaitForGraph) → Owned os → Good g → Good (add_all t g os).graph
  unfolding add_all
  good_all [] g h k = k
  good_all (o ∷ os) g h k = good_all os (add_edge g t o).graph (λ p m. h p (inr m)) (good_add g t o j (h o (inl refl)) k)

  -- If no path is found, the graph has every edge from t to an owner.
  quiet_all : (os : List ℕ) (g : WaitForGraph) → Sized g → Owned os → (add_all t g os).found ≡ None
      → Within (Fan (Edge g.edges) t os) (Edge (add_all t g os).graph.edges)
  unfolding add_all
  quiet_all [] g s h e a b (inl k) = k
  quiet_all [] g s h e a b (inr m) = absurd m.1
  quiet_all (o ∷ os) g s h e a b k = quiet_all os r.graph (sized_add g t o j (h o (inl refl)) s) (λ p m. h p (inr m)) f.1 a b (go k)
    where
      r : Adding
      r = add_edge g t o

      w : Grown t o g r
      w = grown t o g s j (h o (inl refl))

      f : (r.found ≡ None) × ((add_all t r.graph os).found ≡ None)
      f = first_none r.found (add_all t r.graph os).found e

      go : Fan (Edge g.edges) t (o ∷ os) a b → Fan (Edge r.graph.edges) t os a b
      go (inl x) = inl (w.keeps a b x)
      go (inr x) = elim x.1 [
        | inl q ↦ inl (subst₂ (λ (u v : ℕ). Edge r.graph.edges u v) (sym x.0) (sym q) (w.quiet f.0))
        | inr m ↦ inr (x.0, m)
      ]

  -- A path that is found leads from one of the owners to t, along edges that were there or lead from t to an owner.
  loud_all : (os : List ℕ) (g : WaitForGraph) (p : List ℕ) → Sized g → Owned os → (add_all t g os).found ≡ Some p
      → (o : ℕ) × In o os × Found (Fan (Edge g.edges) t os) o t p
  unfolding add_all
  loud_all [] g p s h e = absurd (none_some e)
  loud_all (o ∷ os) g p s h e =
      go (first_some r.found (add_all t r.graph os).found p e) (loud_all os r.graph p (sized_add g t o j (h o (inl refl)) s) (λ q m. h q (inr m)))
    where
      r : Adding
      r = add_edge g t o

      w : Grown t o g r
      w = grown t o g s j (h o (inl refl))

      wide : Within (Fan (Edge r.graph.edges) t os) (Fan (Edge g.edges) t (o ∷ os))
      wide a b (inl k) = elim (w.only a b k) [ inl x ↦ inl x | inr q ↦ inr (q.0, inl q.1) ]
      wide a b (inr m) = inr (m.0, inr m.1)

      go : (r.found ≡ Some p) ⊎ ((r.found ≡ None) × ((add_all t r.graph os).found ≡ Some p))
          → ((add_all t r.graph os).found ≡ Some p → (o : ℕ) × In o os × Found (Fan (Edge r.graph.edges) t os) o t p)
          → (o' : ℕ) × In o' (o ∷ os) × Found (Fan (Edge g.edges) t (o ∷ os)) o' t p
      go (inl q) next =
          let f = w.loud p q in
          (o, inl refl, record { leads = leads_map (Edge g.edges) (Fan (Edge g.edges) t (o ∷ os)) (λ a b k. inl k) o t p f.leads; distinct = f.distinct })
      go (inr q) next =
          let x = next q.1 in
          (x.0, inr x.1, record { leads = leads_map (Fan (Edge r.graph.edges) t os) (Fan (Edge g.edges) t (o ∷ os)) wide x.0 t p x.2.leads; distinct = x.2.distinct })

  -- A walk to t was there before the edges from t.
  to_t : (o : ℕ) (g : WaitForGraph) → Sized g → o < 32 → (x : ℕ) → Walk (Edge (add_edge g t o).graph.edges) x t → Walk (Edge g.edges) x t
  to_t o g s h x w =
      elim (walk_plus (Edge g.edges) t o (walk_map (Edge (add_edge g t o).graph.edges) (Plus (Edge g.edges) t o) (grown t o g s j h).only w))
      [ inl u ↦ u | inr p ↦ p.0 ]

  -- The edges are those before, and those from t to owners from which no walk leads to t.
  stored_all : (os : List ℕ) (g : WaitForGraph) → Sized g → Owned os → (a b : ℕ)
      → Edge (add_all t g os).graph.edges a b ↔ (Edge g.edges a b ⊎ ((a ≡ t) × In b os × (Walk (Edge g.edges) b t → ⊥)))
  unfolding add_all
  stored_all [] g s h a b = (λ e. inl e, λ q. elim q [ inl e ↦ e | inr x ↦ absurd x.1 ])
  stored_all (o ∷ os) g s h a b =
      let ih = stored_all os r.graph (sized_add g t o j (h o (inl refl)) s) (λ q m. h q (inr m)) a b in
      (λ e. to (ih.0 e), λ q. ih.1 (fro q))
    where
      r : Adding
      r = add_edge g t o

      w : Grown t o g r
      w = grown t o g s j (h o (inl refl))

      same : Edge r.graph.edges a b → Edge g.edges a b ⊎ ((a ≡ t) × (b ≡ o)) → Edge g.edges a b ⊎ ((a ≡ t) × In b (o ∷ os) × (Walk (Edge g.edges) b t → ⊥))
      same e (inl k) = inl k
      same e (inr q) = elim (w.shut (subst₂ (λ (u v : ℕ). Edge r.graph.edges u v) q.0 q.1 e)) [
        | inl k ↦ inl (subst₂ (λ (u v : ℕ). Edge g.edges u v) (sym q.0) (sym q.1) k)
        | inr v ↦ inr (q.0, inl q.1, λ u. v (subst (λ (y : ℕ). Walk (Edge g.edges) y t) q.1 u))
      ]

      to : Edge r.graph.edges a b ⊎ ((a ≡ t) × In b os × (Walk (Edge r.graph.edges) b t → ⊥)) → Edge g.edges a b ⊎ ((a ≡ t) × In b (o ∷ os) × (Walk (Edge g.edges) b t → ⊥))
      to (inl e) = same e (w.only a b e)
      to (inr x) = inr (x.0, inr x.1, λ v. x.2 (walk_map (Edge g.edges) (Edge r.graph.edges) w.keeps v))

      fro : Edge g.edges a b ⊎ ((a ≡ t) × In b (o ∷ os) × (Walk (Edge g.edges) b t → ⊥)) → Edge r.graph.edges a b ⊎ ((a ≡ t) × In b os × (Walk (Edge r.graph.edges) b t → ⊥))
      fro (inl e) = inl (w.keeps a b e)
      fro (inr x) = elim x.1 [
        | inl q ↦ inl (subst₂ (λ (u v : ℕ). Edge r.graph.edges u v) (sym x.0) (sym q) (w.free (λ v. x.2 (subst (λ (y : ℕ). Walk (Edge g.edges) y t) (sym q) v))))
        | inr m ↦ inr (x.0, m, λ v. x.2 (to_t o g s (h o (inl refl)) b v))
      ]

-- ---- THEOREMS

module _ (t : ℕ) (j : t < 32) (os : List ℕ) (h : Owned os) (g : WaitForGraph) where
  -- The tables keep their size, and a good graph stays good.
  pub register_sized : Sized g → Sized (add_owners t g os).graph
  register_sized s = rw owners_all (sized_all t j os g h s)

  pub register_good : Good g → Good (add_owners t g os).graph
  register_good k = rw owners_all (good_all t j os g h k)

  -- A path that is found leads from an owner to t.
  pub register_path : Sized g → (p : List ℕ) → (add_owners t g os).found ≡ Some p → (o : ℕ) × In o os × Found (Fan (Edge g.edges) t os) o t p
  register_path s p e = loud_all t j os g p s h (rw owners_all at e)

  -- It is a ring of distinct threads in the graph with all these edges.
  pub register_ring : Sized g → (p : List ℕ) → (add_owners t g os).found ≡ Some p → Ring (Fan (Edge g.edges) t os) p × Distinct p
  register_ring s p e =
      let x = register_path s p e in
      (leads_ring (Fan (Edge g.edges) t os) x.0 t p x.2.leads (inr (refl, x.1)), x.2.distinct)

  -- If no path is found, the graph with all these edges has no cycle.
  pub register_none : Good g → (add_owners t g os).found ≡ None → Acyclic (Fan (Edge g.edges) t os)
  register_none k e =
      acyclic_within (Fan (Edge g.edges) t os) (Edge (add_all t g os).graph.edges) (quiet_all t j os g k.sized h (rw owners_all at e))
      (good_all t j os g h k).acyclic

  -- If the graph with all these edges has a cycle, a path is found.
  pub register_found : Good g → Cycle (Fan (Edge g.edges) t os) → (p : List ℕ) × ((add_owners t g os).found ≡ Some p)
  register_found k c = go (add_owners t g os).found refl
    where
      go : (o : Option (List ℕ)) → (add_owners t g os).found ≡ o → (p : List ℕ) × ((add_owners t g os).found ≡ Some p)
      go None e = absurd (register_none k e c.from c.to c.edge c.back)
      go (Some p) e = (p, e)

  -- The edges stored are those that were there, and those to owners from which no walk leads back to t.
  pub register_stored : Sized g → (a b : ℕ)
      → Edge (add_owners t g os).graph.edges a b ↔ (Edge g.edges a b ⊎ ((a ≡ t) × In b os × (Walk (Edge g.edges) b t → ⊥)))
  register_stored s a b = rw owners_all (stored_all t j os g s h a b)
