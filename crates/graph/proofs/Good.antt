-- Adding, dropping and clearing edges and removing a thread keep a graph mirrored and without a cycle.
use mathlib.Core.Path.{◌≡◌, refl, sym, ap, ◌∙◌}
use mathlib.Core.Logic.{inl, inr, ◌↔◌, ⊎_elim}
use mathlib.Core.List.{List, [], ◌∷◌, foldl}
use mathlib.Core.Bool.{Bool, true, false, cond}
use Rattle.std.specs.Prelude.{Option, None, Some}
use Prim.Native.Nat.{ℕ, zero, suc, ◌<◌, ◌^◌}
use native.Mathlib.Omega.{arith}
use native.Mathlib.Decide.{ℕ_discrete}
use lib.Dec.{lit<}
use lib.ListN.{get_or, set, length, length-set, replicate}
use lib.Seq.{get_or-set_same, get_or-set_other}
use Rattle.sets.specs.Sets.{bit, has, with, without, upward}
use Rattle.sets.specs.Lists.{In}
use Rattle.sets.proofs.Digits.{bit_cases, bit_zero, has_bit, bit_with_same, bit_with_other, bit_without_same, bit_without_other, with_lt, without_le}
use Rattle.sets.proofs.Walk.{upward_lt, bit_upward}
use Rattle.sets.proofs.Tables.{set_all}
use Rattle.graph.specs.Ways.{Walk, Within, Plus, Found}
use Rattle.graph.specs.Search.{row, find_path}
use Rattle.graph.specs.Graph.{put, cut, cut_all, empty, Adding, adding, stored, closing, add_edge, remove_edge, remove_edges_to, clear_wait_edges, remove_thread, Edge, Mirror, Sized, Good}
use Rattle.graph.specs.declared.wait_for_graph.WaitForGraph.{WaitForGraph}
use Rattle.graph.proofs.Ways.{acyclic_within, acyclic_plus}
use Rattle.graph.proofs.Paths.{path_found_lem, none_found}

-- ---- One digit of one row

-- States that the table u is the table t with digit j of row i set to d, and no other digit changed.
pub record At (t u : List ℕ) (i j d : ℕ) : Type 0 where
  pub there : bit (row u i) j ≡ d
  pub else : (k l : ℕ) → ((k ≡ i) × (l ≡ j) → ⊥) → bit (row u k) l ≡ bit (row t k) l

module _ (t : List ℕ) (i j : ℕ) (h : i < length t) where
  -- If the new row v differs from the old one at j alone, storing it changes that digit alone.
  at_set : (v d : ℕ) → bit v j ≡ d → ((l : ℕ) → (l ≡ j → ⊥) → bit v l ≡ bit (row t i) l) → At t (set t i v) i j d
  at_set v d p q =
      record {
        there = rw (get_or-set_same t i v 0 h) p;
        else = λ k l n. go k l n (ℕ_discrete k i) (ℕ_discrete l j);
      }
    where
      go : (k l : ℕ) → ((k ≡ i) × (l ≡ j) → ⊥) → Dec (k ≡ i) → Dec (l ≡ j) → bit (row (set t i v) k) l ≡ bit (row t k) l
      go k l n (yes e) (yes f) = absurd (n (e, f))
      go k l n (yes e) (no f) = rw (e, get_or-set_same t i v 0 h) (q l f)
      go k l n (no e) f = rw (get_or-set_other t i k v 0 e)

  -- Adding and taking out a number change its digit alone.
  pub at_put : At t (put t i j) i j 1
  at_put = at_set (with (row t i) j) 1 (bit_with_same _ _) (λ l n. bit_with_other _ _ _ n)

  pub at_cut : At t (cut t i j) i j 0
  at_cut = at_set (without (row t i) j) 0 (bit_without_same _ _) (λ l n. bit_without_other _ _ _ n)

-- ---- The mirror

-- Tables that mirror each other still do after the same digit was set in both.
mirror_at_lem : (e e' i i' : List ℕ) (a b d : ℕ) → At e e' a b d → At i i' b a d → Mirror e i → Mirror e' i'
mirror_at_lem e e' i i' a b d p q m x y = go (ℕ_discrete x a) (ℕ_discrete y b)
  where
    go : Dec (x ≡ a) → Dec (y ≡ b) → bit (row e' x) y ≡ bit (row i' y) x
    go (yes s) (yes r) = rw (s, r) (p.there ∙ sym q.there)
    go (yes s) (no r) = p.else x y (λ z. r z.1) ∙ m x y ∙ sym (q.else y x (λ z. r z.0))
    go (no s) r = p.else x y (λ z. s z.0) ∙ m x y ∙ sym (q.else y x (λ z. s z.1))

-- ---- Every row in range

-- States that every row is a set of numbers below 32.
abbrev Narrow : List ℕ → Type 0
Narrow t = (k : ℕ) → row t k < 2 ^ 32

narrow_put : (t : List ℕ) (i j : ℕ) → j < 32 → Narrow t → Narrow (put t i j)
narrow_put t i j s n = set_all (λ m. m < 2 ^ 32) t i _ 0 (with_lt 32 _ _ (n i) s) n

narrow_cut : (t : List ℕ) (i j : ℕ) → Narrow t → Narrow (cut t i j)
narrow_cut t i j n = set_all (λ m. m < 2 ^ 32) t i _ 0 (omega (arith, without_le (row t i) j, n i)) n

narrow_zero : (t : List ℕ) (i : ℕ) → Narrow t → Narrow (set t i 0)
narrow_zero t i n = set_all (λ m. m < 2 ^ 32) t i 0 0 (lit< tt) n

-- ---- A number taken out of many rows

-- Returns the table with j taken out of each of the rows in the list.
abbrev cuts : ℕ → List ℕ → List ℕ → List ℕ
cuts j t l = foldl (λ u i. cut u i j) t l

-- States that every number of the list is below n.
abbrev Inside : List ℕ → ℕ → Type 0
Inside l n = (x : ℕ) → In x l → x < n

inside_tail : (x j : ℕ) (l t : List ℕ) → Inside (x ∷ l) (length t) → Inside l (length (cut t x j))
inside_tail x j l t w y i = rw length-set (w y (inr i))

cuts_length : (j : ℕ) (l t : List ℕ) → length (cuts j t l) ≡ length t
cuts_length j [] t = refl
cuts_length j (x ∷ l) t = cuts_length j l (cut t x j) ∙ simp length-set

cuts_narrow : (j : ℕ) (l t : List ℕ) → Narrow t → Narrow (cuts j t l)
cuts_narrow j [] t n = n
cuts_narrow j (x ∷ l) t n = cuts_narrow j l (cut t x j) (narrow_cut t x j n)

-- What was not in a row is not in it after j was taken out of the rows of the list.
cuts_zero : (j : ℕ) (l t : List ℕ) → Inside l (length t) → (k i : ℕ) → bit (row t k) i ≡ 0 → bit (row (cuts j t l) k) i ≡ 0
cuts_zero j [] t w k i e = e
cuts_zero j (x ∷ l) t w k i e = cuts_zero j l (cut t x j) (inside_tail x j l t w) k i (go (ℕ_discrete k x) (ℕ_discrete i j))
  where
    a : At t (cut t x j) x j 0
    a = at_cut t x j (w x (inl refl))

    go : Dec (k ≡ x) → Dec (i ≡ j) → bit (row (cut t x j) k) i ≡ 0
    go (yes p) (yes q) = rw (p, q) a.there
    go (yes p) (no q) = a.else k i (λ z. q z.1) ∙ e
    go (no p) q = a.else k i (λ z. p z.0) ∙ e

-- After that, j is in none of these rows.
cuts_there : (j : ℕ) (l t : List ℕ) → Inside l (length t) → (k : ℕ) → In k l → bit (row (cuts j t l) k) j ≡ 0
cuts_there j [] t w k h = absurd h
cuts_there j (x ∷ l) t w k h =
    ⊎_elim
    (λ e. cuts_zero j l (cut t x j) (inside_tail x j l t w) k j (rw e (at_cut t x j (w x (inl refl))).there))
    (λ i. cuts_there j l (cut t x j) (inside_tail x j l t w) k i) h

-- Nothing but j was taken out.
cuts_else : (j : ℕ) (l t : List ℕ) → Inside l (length t) → (k i : ℕ) → (i ≡ j → ⊥) → bit (row (cuts j t l) k) i ≡ bit (row t k) i
cuts_else j [] t w k i n = refl
cuts_else j (x ∷ l) t w k i n =
    cuts_else j l (cut t x j) (inside_tail x j l t w) k i n ∙ (at_cut t x j (w x (inl refl))).else k i (λ z. n z.1)

module _ (i : List ℕ) (j m : ℕ) (len : length i ≡ 32) where
  walked : Inside (upward 32 m) (length i)
  walked x q = rw len (upward_lt 32 m x q)

  -- No edge is left that was not there before.
  pub cut_all_within : Within (Edge (cut_all j i m)) (Edge i)
  unfolding cut_all
  cut_all_within x y d =
      ⊎_elim (λ z. absurd (omega (arith, d, cuts_zero j (upward 32 m) i walked x y z))) (λ o. o) (bit_cases (row i x) y)

-- Emptying row t of one table and taking t out of the rows of the other that it named keeps them mirrored.
mirror_clear : (e i : List ℕ) (t : ℕ) → t < length e → length i ≡ 32 → row e t < 2 ^ 32 → Mirror e i → Mirror (set e t 0) (cut_all t i (row e t))
unfolding cut_all
mirror_clear e i t h len nar m x y = go (ℕ_discrete x t)
  where
    w : Inside (upward 32 (row e t)) (length i)
    w z q = rw len (upward_lt 32 (row e t) z q)

    zeroed : bit (row (cuts t i (upward 32 (row e t))) y) t ≡ 0
    zeroed =
        ⊎_elim (λ d. cuts_zero t (upward 32 (row e t)) i w y t (sym (m t y) ∙ d))
        (λ d. cuts_there t (upward 32 (row e t)) i w y (bit_upward 32 (row e t) y nar d)) (bit_cases (row e t) y)

    go : Dec (x ≡ t) → bit (row (set e t 0) x) y ≡ bit (row (cuts t i (upward 32 (row e t))) y) x
    go (yes p) = rw (p, get_or-set_same e t 0 0 h) (bit_zero y ∙ sym zeroed)
    go (no p) = rw (get_or-set_other e t x 0 0 p) (m x y ∙ sym (cuts_else t (upward 32 (row e t)) i w y x p))

-- After row t was emptied, the edges are those that do not start at t.
pub emptied_row : (e : List ℕ) (t : ℕ) → t < length e → (x y : ℕ) → Edge (set e t 0) x y ↔ ((x ≡ t → ⊥) × Edge e x y)
emptied_row e t h x y = (λ d. go d (ℕ_discrete x t), λ p. rw (get_or-set_other e t x 0 0 p.0) p.1)
  where
    go : Edge (set e t 0) x y → Dec (x ≡ t) → (x ≡ t → ⊥) × Edge e x y
    go d (yes p) = absurd (omega (arith, bit_zero y, rw (p, get_or-set_same e t 0 0 h) at d))
    go d (no p) = (p, rw (get_or-set_other e t x 0 0 p) at d)

-- ---- What each operation does to the edges

-- After an edge was stored, the edges are those before and this one.
pub stored_edge : (g : WaitForGraph) (a b : ℕ) → Sized g → a < 32 → (x y : ℕ) → Edge (stored g a b).edges x y ↔ Plus (Edge g.edges) a b x y
unfolding stored
stored_edge g a b s ha x y = (λ d. go d (ℕ_discrete x a) (ℕ_discrete y b), back)
  where
    p : At g.edges (put g.edges a b) a b 1
    p = at_put g.edges a b (omega (arith, s.long))

    go : Edge (put g.edges a b) x y → Dec (x ≡ a) → Dec (y ≡ b) → Plus (Edge g.edges) a b x y
    go d (yes i) (yes j) = inr (i, j)
    go d (yes i) (no j) = inl (sym (p.else x y (λ z. j z.1)) ∙ d)
    go d (no i) j = inl (sym (p.else x y (λ z. i z.0)) ∙ d)

    keep : Edge g.edges x y → Dec (x ≡ a) → Dec (y ≡ b) → Edge (put g.edges a b) x y
    keep d (yes i) (yes j) = rw (i, j) p.there
    keep d (yes i) (no j) = p.else x y (λ z. j z.1) ∙ d
    keep d (no i) j = p.else x y (λ z. i z.0) ∙ d

    back : Plus (Edge g.edges) a b x y → Edge (put g.edges a b) x y
    back (inl d) = keep d (ℕ_discrete x a) (ℕ_discrete y b)
    back (inr q) = rw (q.0, q.1) p.there

-- After the edges from t were dropped, the edges are those that do not start at t.
pub cleared_edge : (g : WaitForGraph) (t : ℕ) → Sized g → t < 32 → (x y : ℕ) → Edge (clear_wait_edges g t).edges x y ↔ ((x ≡ t → ⊥) × Edge g.edges x y)
unfolding clear_wait_edges
cleared_edge g t s h = emptied_row g.edges t (omega (arith, s.long))

-- Taking a number out of a row adds no edge.
cut_within : (t : List ℕ) (i j : ℕ) → i < length t → Within (Edge (cut t i j)) (Edge t)
cut_within t i j h x y d = go (ℕ_discrete x i) (ℕ_discrete y j)
  where
    p : At t (cut t i j) i j 0
    p = at_cut t i j h

    go : Dec (x ≡ i) → Dec (y ≡ j) → Edge t x y
    go (yes e) (yes f) = absurd (omega (arith, rw (e, f) at d, p.there))
    go (yes e) (no f) = sym (p.else x y (λ z. f z.1)) ∙ d
    go (no e) f = sym (p.else x y (λ z. e z.0)) ∙ d

-- ---- THEOREMS: what every operation on a graph keeps

-- Adding an edge has three outcomes: the edge was there, a path shows that it would close a cycle, or it is stored.
-- What is true in each case is true of the result.
pub add_cases : (g : WaitForGraph) (a b : ℕ) → Sized g → b < 32 → (P : Adding → Type 0)
    → (Edge g.edges a b → P (adding g None))
    → ((p : List ℕ) → Found (Edge g.edges) b a p → P (adding g (Some p)))
    → ((Walk (Edge g.edges) b a → ⊥) → P (adding (stored g a b) None))
    → P (add_edge g a b)
unfolding add_edge closing
add_cases g a b s hb P c₁ c₂ c₃ = go (has (row g.edges a) b) refl
  where
    then : (o : Option (List ℕ)) → find_path g.edges b a ≡ o → P (closing g a b o)
    then None e = c₃ (none_found g.edges s.narrow b a hb e)
    then (Some p) e = c₂ p (path_found_lem g.edges s.narrow b a hb p e)

    go : (t : Bool) → has (row g.edges a) b ≡ t → P (cond t (adding g None) (closing g a b (find_path g.edges b a)))
    go true e = c₁ (has_bit _ _ e)
    go false e = then (find_path g.edges b a) refl

-- Storing an edge keeps the size of the tables, and so does dropping the edges from a thread.
pub sized_stored : (g : WaitForGraph) (a b : ℕ) → a < 32 → b < 32 → Sized g → Sized (stored g a b)
unfolding stored
sized_stored g a b ha hb s =
    record {
      long = simp length-set s.long;
      long_in = simp length-set s.long_in;
      narrow = narrow_put g.edges a b hb s.narrow;
      narrow_in = narrow_put g.incoming_edges b a ha s.narrow_in;
    }

pub sized_clear : (g : WaitForGraph) (t : ℕ) → Sized g → Sized (clear_wait_edges g t)
unfolding clear_wait_edges cut_all
sized_clear g t s =
    record {
      long = simp length-set s.long;
      long_in = cuts_length t (upward 32 (row g.edges t)) g.incoming_edges ∙ s.long_in;
      narrow = narrow_zero g.edges t s.narrow;
      narrow_in = cuts_narrow t (upward 32 (row g.edges t)) g.incoming_edges s.narrow_in;
    }

-- The graph without edges is good.
pub good_empty : Good empty
good_empty =
    record {
      sized = record { long = refl; long_in = refl; narrow = rows; narrow_in = rows };
      mirror = λ a b. blank a b ∙ sym (blank b a);
      acyclic = λ a c e w. absurd (omega (arith, blank a c));
    }
  where
    all : (n i : ℕ) → get_or {A = ℕ} (replicate n 0) i 0 ≡ 0
    all zero i = refl
    all (suc n) zero = refl
    all (suc n) (suc i) = all n i

    none_there : (i : ℕ) → row empty.edges i ≡ 0
    none_there i = all 32 i

    rows : (i : ℕ) → row empty.edges i < 2 ^ 32
    rows i = rw (none_there i) (lit< tt)

    blank : (a b : ℕ) → bit (row empty.edges a) b ≡ 0
    blank a b = ap (λ (m : ℕ). bit m b) (none_there a) ∙ bit_zero b

-- Storing an edge from a to b keeps a graph good if no walk leads from b to a.
pub good_stored : (g : WaitForGraph) (a b : ℕ) → a < 32 → b < 32 → Good g → (Walk (Edge g.edges) b a → ⊥) → Good (stored g a b)
unfolding stored
good_stored g a b ha hb k n =
    record {
      sized = sized_stored g a b ha hb k.sized;
      mirror = both;
      acyclic = acyclic_within (Edge (stored g a b).edges) (Plus (Edge g.edges) a b) (λ x y. (stored_edge g a b k.sized ha x y).0)
          (acyclic_plus (Edge g.edges) a b k.acyclic n);
    }
  where
    both : Mirror (stored g a b).edges (stored g a b).incoming_edges
    both = mirror_at_lem _ _ _ _ a b 1 (at_put g.edges a b (omega (arith, k.sized.long))) (at_put g.incoming_edges b a (omega (arith, k.sized.long_in))) k.mirror

-- Each operation of the rules keeps a graph good.
pub good_add : (g : WaitForGraph) (a b : ℕ) → a < 32 → b < 32 → Good g → Good (add_edge g a b).graph
good_add g a b ha hb k = add_cases g a b k.sized hb (λ r. Good r.graph) (λ e. k) (λ p f. k) (λ n. good_stored g a b ha hb k n)

pub good_remove_edge : (g : WaitForGraph) (a b : ℕ) → a < 32 → b < 32 → Good g → Good (remove_edge g a b)
unfolding remove_edge
good_remove_edge g a b ha hb k = go (has (row g.edges a) b)
  where
    kept : Good (record { edges = cut g.edges a b; incoming_edges = cut g.incoming_edges b a })
    kept =
        record {
          sized = record {
            long = simp length-set k.sized.long;
            long_in = simp length-set k.sized.long_in;
            narrow = narrow_cut g.edges a b k.sized.narrow;
            narrow_in = narrow_cut g.incoming_edges b a k.sized.narrow_in;
          };
          mirror = mirror_at_lem _ _ _ _ a b 0 (at_cut g.edges a b (omega (arith, k.sized.long))) (at_cut g.incoming_edges b a (omega (arith, k.sized.long_in))) k.mirror;
          acyclic = acyclic_within (Edge (cut g.edges a b)) (Edge g.edges) (cut_within g.edges a b (omega (arith, k.sized.long))) k.acyclic;
        }

    go : (t : Bool) → Good (cond t (record { edges = cut g.edges a b; incoming_edges = cut g.incoming_edges b a }) g)
    go true = kept
    go false = k

pub good_remove_edges : (t : ℕ) (ws : List ℕ) (g : WaitForGraph) → t < 32 → ((w : ℕ) → In w ws → w < 32) → Good g → Good (remove_edges_to t g ws)
unfolding remove_edges_to
good_remove_edges t [] g h b k = k
good_remove_edges t (w ∷ ws) g h b k = good_remove_edges t ws (remove_edge g w t) h (λ v i. b v (inr i)) (good_remove_edge g w t (b w (inl refl)) h k)

pub good_clear : (g : WaitForGraph) (t : ℕ) → t < 32 → Good g → Good (clear_wait_edges g t)
unfolding clear_wait_edges
good_clear g t h k =
    record {
      sized = sized_clear g t k.sized;
      mirror = both;
      acyclic = acyclic_within (Edge (clear_wait_edges g t).edges) (Edge g.edges) (λ x y d. ((cleared_edge g t k.sized h x y).0 d).1) k.acyclic;
    }
  where
    both : Mirror (clear_wait_edges g t).edges (clear_wait_edges g t).incoming_edges
    both = mirror_clear g.edges g.incoming_edges t (omega (arith, k.sized.long)) k.sized.long_in (k.sized.narrow t) k.mirror

pub good_remove_thread : (g : WaitForGraph) (t : ℕ) → t < 32 → Good g → Good (remove_thread g t)
unfolding remove_thread cut_all
good_remove_thread g t h k =
    record {
      sized = record {
        long = long_cut ∙ c.sized.long;
        long_in = simp length-set c.sized.long_in;
        narrow = narrow_cuts;
        narrow_in = narrow_zero u.incoming_edges t c.sized.narrow_in;
      };
      mirror = λ x y. sym (mirror_clear u.incoming_edges u.edges t (omega (arith, c.sized.long_in)) c.sized.long (c.sized.narrow_in t) (λ i j. sym (c.mirror j i)) y x);
      acyclic = acyclic_within (Edge (cut_all t u.edges (row u.incoming_edges t))) (Edge u.edges)
          (cut_all_within u.edges t (row u.incoming_edges t) c.sized.long) c.acyclic;
    }
  where
    u : WaitForGraph
    u = clear_wait_edges g t

    c : Good (clear_wait_edges g t)
    c = good_clear g t h k

    long_cut : length (cut_all t u.edges (row u.incoming_edges t)) ≡ length u.edges
    long_cut = cuts_length t (upward 32 (row u.incoming_edges t)) u.edges

    narrow_cuts : Narrow (cut_all t u.edges (row u.incoming_edges t))
    narrow_cuts = cuts_narrow t (upward 32 (row u.incoming_edges t)) u.edges c.sized.narrow
