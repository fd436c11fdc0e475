-- Every path that is found has at most 32 threads, each below 32, whatever the rows are.
use mathlib.Core.Path.{◌≡◌, refl}
use mathlib.Core.Logic.{inl, inr}
use mathlib.Core.List.{List, [], ◌∷◌, ◌++◌, foldl}
use mathlib.Core.Bool.{Bool, true, false, cond}
use Rattle.std.specs.Prelude.{Option, None, Some}
use Prim.Native.Nat.{ℕ, zero, suc, ◌+◌, ◌<◌, ◌≤◌}
use native.Mathlib.Omega.{arith}
use lib.Dec.{eqb, ltb}
use lib.ListN.{get_or, length}
use borrow.Author.Tests.{ltb-true}
use Rattle.sets.specs.Sets.{has, with, upward}
use Rattle.sets.specs.Lists.{In}
use Rattle.sets.proofs.Walk.{upward_lt}
use Rattle.graph.specs.Search.{row, Trail, visit, expand, way_back, search, begun, find_path}
use Rattle.graph.specs.Graph.{Adding, adding, closing, add_edge, first, add_next, add_owners, one}
use Rattle.graph.specs.Promises.{Small, Fit}
use Rattle.graph.proofs.Trails.{small_nil, small_cons, small_append}
use Rattle.graph.specs.declared.wait_for_graph.WaitForGraph.{WaitForGraph}

-- ---- The search

-- The threads found stay below 32.
small_visit : (p : ℕ) (s : Trail) (n : ℕ) → n < 32 → Small s.threads → Small (visit p s n).threads
unfolding visit
small_visit p s n h a = go (has s.seen n)
  where
    go : (b : Bool) → Small (cond b s (record { threads = s.threads ++ (n ∷ []); parents = s.parents ++ (p ∷ []); seen = with s.seen n })).threads
    go true = a
    go false = small_append s.threads (n ∷ []) a (small_cons n [] h small_nil)

small_visits : (p : ℕ) (l : List ℕ) (s : Trail) → ((x : ℕ) → In x l → x < 32) → Small s.threads → Small (foldl (visit p) s l).threads
small_visits p [] s h a = a
small_visits p (n ∷ l) s h a = small_visits p l (visit p s n) (λ x i. h x (inr i)) (small_visit p s n (h n (inl refl)) a)

small_expand : (p : ℕ) (s : Trail) (m : ℕ) → Small s.threads → Small (expand p s m).threads
unfolding expand
small_expand p s m a = small_visits p (upward 32 m) s (upward_lt 32 m) a

-- The path back along the parents stays below 32 too, and adds at most f + 1 threads to acc.
small_back : (f : ℕ) (s : Trail) (k : ℕ) (acc : List ℕ) → Small s.threads → Small acc → Small (way_back f s k acc)
unfolding way_back
small_back zero s k acc a b = small_cons _ acc (a k) b
small_back (suc f) s zero acc a b = small_cons _ acc (a 0) b
small_back (suc f) s (suc k) acc a b = small_back f s _ _ a (small_cons _ acc (a (suc k)) b)

back_long : (f : ℕ) (s : Trail) (k : ℕ) (acc : List ℕ) → length (way_back f s k acc) ≤ f + 1 + length acc
unfolding way_back
back_long zero s k acc = omega arith
back_long (suc f) s zero acc = omega arith
back_long (suc f) s (suc k) acc = omega (arith, back_long f s (get_or s.parents (suc k) 0) (get_or s.threads (suc k) 0 ∷ acc))

-- ---- Results of a search

-- States that a path, if there is one, has at most 32 threads, each below 32.
abbrev pub Fits : Option (List ℕ) → Type 0
Fits None = Unit {0}
Fits (Some p) = Fit p

pub fits_none : Fits None
fits_none = tt

fits_cond : (b : Bool) (x y : Option (List ℕ)) → Fits x → Fits y → Fits (cond b x y)
fits_cond true x y p q = p
fits_cond false x y p q = q

-- Every path that a search finds fits.
fits_search : (f : ℕ) (rows : List ℕ) (a p : ℕ) (s : Trail) → Small s.threads → Fits (search f rows a p s)
unfolding search
fits_search zero rows a p s h = fits_none
fits_search (suc f) rows a p s h =
    fits_cond (ltb p (length s.threads)) _ _
    (fits_cond (eqb (get_or s.threads p 0) a) _ _ (record { long = omega (arith, back_long 31 s p []); small = small_back 31 s p [] h small_nil })
    (fits_search f rows a (suc p) _ (small_expand p s _ h)))
    fits_none

fits_find : (rows : List ℕ) (b a : ℕ) → b < 32 → Fits (find_path rows b a)
unfolding find_path
fits_find rows b a h = fits_search 32 rows a 0 (begun b) (small_cons b [] h small_nil)

fits_closing : (g : WaitForGraph) (a b : ℕ) (o : Option (List ℕ)) → Fits o → Fits (closing g a b o).found
unfolding closing
fits_closing g a b None f = f
fits_closing g a b (Some p) f = f

fits_add : (g : WaitForGraph) (a b : ℕ) → b < 32 → Fits (add_edge g a b).found
unfolding add_edge
fits_add g a b h = go (has (row g.edges a) b)
  where
    go : (t : Bool) → Fits (cond t (adding g None) (closing g a b (find_path g.edges b a))).found
    go true = fits_none
    go false = fits_closing g a b (find_path g.edges b a) (fits_find g.edges b a h)

-- The first of two paths that fit fits.
pub fits_first : (x y : Option (List ℕ)) → Fits x → Fits y → Fits (first x y)
fits_first (Some p) y a b = a
fits_first None y a b = b

fits_all : (t : ℕ) (os : List ℕ) (k : Adding) → ((o : ℕ) → In o os → o < 32) → Fits k.found → Fits (foldl (add_next t) k os).found
unfolding add_next
fits_all t [] k h f = f
fits_all t (o ∷ os) k h f = fits_all t os (add_next t k o) (λ p i. h p (inr i)) (fits_first k.found _ f (fits_add k.graph t o (h o (inl refl))))

-- The path that adding edges to owners finds fits, if every owner is below 32.
pub fits_owners : (t : ℕ) (g : WaitForGraph) (os : List ℕ) → ((o : ℕ) → In o os → o < 32) → Fits (add_owners t g os).found
unfolding add_owners
fits_owners t g os h = fits_all t os (adding g None) h fits_none

-- The thread in the list that `one` gives is below 32.
pub one_lt : (o x : ℕ) → In x (one o) → x < 32
one_lt o x = go (ltb o 32) (ltb-true o 32)
  where
    go : (b : Bool) → (b ≡ true → o < 32) → In x (cond b (o ∷ []) []) → x < 32
    go true h (inl e) = rw e (h refl)
    go true h (inr i) = absurd i
    go false h i = absurd i
