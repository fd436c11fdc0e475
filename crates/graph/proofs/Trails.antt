-- What a search keeps to, and how it goes on turn by turn.
use mathlib.Core.Path.{◌≡◌, refl, sym, ap, ◌∙◌, subst}
use mathlib.Core.Logic.{⊎_elim}
use mathlib.Core.List.{List, [], ◌∷◌, ◌++◌}
use mathlib.Core.Bool.{Bool, true, false, cond}
use Rattle.std.specs.Prelude.{None, Some, slice_get}
use Rattle.std.proofs.lemmas.Option.{none-some, slice_get_within, get_or_from_slice_get, slice_get_cases}
use Prim.Native.Nat.{ℕ, zero, suc, ◌-◌, ◌<◌, ◌≤◌}
use native.Mathlib.Omega.{arith}
use lib.ListN.{get_or, length, take, length-append, get_or-append, get_or-map}
use Rattle.std.proofs.lemmas.List.{length-map}
use lib.Seq.{get_or-append_seam, get_or-take, length-take-le}
use lib.Dec.{lit<, lit≤}
use borrow.Author.Tests.{lt-ltb, le-ltb, eq-eqb, ne_eqb}
use lib.Count.{ones-le}
use Rattle.sets.specs.Sets.{has, with}
use Rattle.sets.proofs.Walk.{upward_zero}
use Rattle.sets.proofs.Digits.{not_bit, with_lt, ones_with}
use Rattle.sets.proofs.Below.{last_or}
use Rattle.graph.specs.Search.{row, Trail, visit, expand, way_back, begun, search, find_path}
use Rattle.graph.specs.Promises.{Small, Sound}
use Rattle.graph.specs.Code.{trail_of}
use Rattle.graph.specs.declared.search.Found.{Found}

-- ---- Threads below 32

pub small_nil : Small []
small_nil zero = lit< tt
small_nil (suc k) = lit< tt

pub small_cons : (x : ℕ) (l : List ℕ) → x < 32 → Small l → Small (x ∷ l)
small_cons x l h s zero = h
small_cons x l h s (suc k) = s k

pub small_append : (l m : List ℕ) → Small l → Small m → Small (l ++ m)
small_append [] m s r = r
small_append (x ∷ l) m s r = small_cons x (l ++ m) (s 0) (small_append l m (λ k. s (suc k)) r)

-- ---- A thread found

module _ (s : Trail) (n p : ℕ) (sound : Sound s) (small : n < 32) (fresh : has s.seen n ≡ false) where
  -- If n was not found before, there is a place left for it.
  pub room : length s.threads < 32
  room =
      omega (
        arith,
        sound.counted,
        ones_with s.seen n (not_bit _ _ fresh),
        ones-le 32 (with s.seen n) (with_lt 32 s.seen n sound.below small),
      )

  -- What is found keeps to the rules of a search when n is added.
  pub sound_more : p < length s.threads → Sound (record { threads = s.threads ++ (n ∷ []); parents = s.parents ++ (p ∷ []); seen = with s.seen n })
  sound_more h =
      let q = sound.paired in
      record {
        counted = omega (arith, sound.counted, length-append s.threads (n ∷ []), ones_with s.seen n (not_bit _ _ fresh));
        paired = omega (arith, length-append s.threads (n ∷ []), length-append s.parents (p ∷ []));
        below = with_lt 32 s.seen n sound.below small;
        small = small_append s.threads (n ∷ []) sound.small (small_cons n [] small small_nil);
        earlier = λ k z l. ⊎_elim (λ b. rw (get_or-append s.parents (p ∷ []) 0 k (omega arith)) (sound.earlier k z b)) (λ e. subst (λ (x : ℕ). get_or (s.parents ++ (p ∷ [])) x 0 < x) (q ∙ sym e) (rw (get_or-append_seam s.parents p [] 0, q) h)) (last_or k (length s.threads) (omega (arith, length-append s.threads (n ∷ []))));
      }

-- A visit loses no thread.
pub visit_longer : (p : ℕ) (s : Trail) (n : ℕ) → length s.threads ≤ length (visit p s n).threads
unfolding visit
visit_longer p s n = go (has s.seen n)
  where
    go : (b : Bool) → length s.threads ≤ length (cond b s (record { threads = s.threads ++ (n ∷ []); parents = s.parents ++ (p ∷ []); seen = with s.seen n })).threads
    go true = omega arith
    go false = omega (arith, length-append s.threads (n ∷ []))

-- At most 32 threads are found.
pub count_le : (s : Trail) → Sound s → length s.threads ≤ 32
count_le s h = omega (arith, h.counted, ones-le 32 s.seen h.below)

-- ---- What the code's record of a search has

-- The threads and the parents are read out of the record of what was found.
pub thread_at : (fs : List Found) (seen k : ℕ) → get_or (trail_of fs seen).threads k 0 ≡ (get_or fs k (record { thread = 0; parent = 0 })).thread
thread_at fs seen k = get_or-map (λ f. f.thread) fs k (record { thread = 0; parent = 0 })

pub parent_at : (fs : List Found) (seen k : ℕ) → get_or (trail_of fs seen).parents k 0 ≡ (get_or fs k (record { thread = 0; parent = 0 })).parent
parent_at fs seen k = get_or-map (λ f. f.parent) fs k (record { thread = 0; parent = 0 })

-- The trail has as many threads as were found.
pub found_count : (fs : List Found) (seen : ℕ) → length (trail_of fs seen).threads ≡ length fs
found_count fs seen = length-map fs (λ f. f.thread)

-- The trail of the first n has as many threads, and each is read at its place.
pub found_length : (fs : List Found) (n seen : ℕ) → n ≤ 32 → length fs ≡ 32 → length (trail_of (take n fs) seen).threads ≡ n
found_length fs n seen h e = length-map (take n fs) (λ f. f.thread) ∙ length-take-le n fs (omega (arith, e))

pub found_thread : (fs : List Found) (n seen k : ℕ) → k < n → get_or (trail_of (take n fs) seen).threads k 0 ≡ (get_or fs k (record { thread = 0; parent = 0 })).thread
found_thread fs n seen k h = thread_at (take n fs) seen k ∙ ap (λ (f : Found). f.thread) (get_or-take n fs k (record { thread = 0; parent = 0 }) h)

pub found_parent : (fs : List Found) (n seen k : ℕ) → k < n → get_or (trail_of (take n fs) seen).parents k 0 ≡ (get_or fs k (record { thread = 0; parent = 0 })).parent
found_parent fs n seen k h = parent_at (take n fs) seen k ∙ ap (λ (f : Found). f.parent) (get_or-take n fs k (record { thread = 0; parent = 0 }) h)

-- ---- Back along the parents

-- At the first thread it ends, and at any other it goes on with the parent.
pub path_end : (f : ℕ) (s : Trail) (acc : List ℕ) → way_back f s 0 acc ≡ get_or s.threads 0 0 ∷ acc
unfolding way_back
path_end zero s acc = refl
path_end (suc f) s acc = refl

pub path_step : (f : ℕ) (s : Trail) (k : ℕ) (acc : List ℕ) → 0 < f → 0 < k
    → way_back f s k acc ≡ way_back (f - 1) s (get_or s.parents k 0) (get_or s.threads k 0 ∷ acc)
unfolding way_back
path_step zero s k acc p q = absurd (omega arith)
path_step (suc f) s zero acc p q = absurd (omega arith)
path_step (suc f) s (suc k) acc p q =
    let e : f ≡ suc f - 1 = omega arith in
    ap (λ (x : ℕ). way_back x s (get_or s.parents (suc k) 0) (get_or s.threads (suc k) 0 ∷ acc)) e

-- ---- The search

module _ (f : ℕ) (rows : List ℕ) (a p : ℕ) (s : Trail) where
  -- The search ends with a path when it meets a, goes on when it meets another thread, and ends with None at the end.
  pub search_met : p < length s.threads → get_or s.threads p 0 ≡ a → search (suc f) rows a p s ≡ Some (way_back 31 s p [])
  unfolding search
  search_met h e = rw (lt-ltb _ _ h, eq-eqb _ _ e)

  pub search_on : p < length s.threads → (get_or s.threads p 0 ≡ a → ⊥)
      → search (suc f) rows a p s ≡ search f rows a (suc p) (expand p s (row rows (get_or s.threads p 0)))
  unfolding search
  search_on h n = rw (lt-ltb _ _ h, ne_eqb _ _ n)

pub search_end : (f : ℕ) (rows : List ℕ) (a p : ℕ) (s : Trail) → length s.threads ≤ p → search f rows a p s ≡ None
unfolding search
search_end zero rows a p s h = refl
search_end (suc f) rows a p s h = rw (le-ltb _ _ h)

-- The three laws again, by what is read at the place p.
module _ (f : ℕ) (rows : List ℕ) (a p : ℕ) (s : Trail) where
  pub turn_met : (x : ℕ) → slice_get s.threads p ≡ Some x → x ≡ a → search (suc f) rows a p s ≡ Some (way_back 31 s p [])
  turn_met x e q = search_met f rows a p s (slice_get_within s.threads p x e) (get_or_from_slice_get s.threads p x 0 e ∙ q)

  pub turn_on : (x : ℕ) → slice_get s.threads p ≡ Some x → (x ≡ a → ⊥)
      → search (suc f) rows a p s ≡ search f rows a (suc p) (expand p s (row rows x))
  turn_on x e n =
      let g = get_or_from_slice_get s.threads p x 0 e in
      search_on f rows a p s (slice_get_within s.threads p x e) (λ q. n (sym g ∙ q)) ∙ rw g

  pub turn_end : slice_get s.threads p ≡ None → search f rows a p s ≡ None
  turn_end e =
      ⊎_elim (λ q. absurd (none-some q.0 (sym e ∙ q.2))) (λ q. search_end f rows a p s q.0) (slice_get_cases s.threads p).1

-- A thread that waits for nobody leads to no other thread.
pub start_idle : (rows : List ℕ) (b a : ℕ) → row rows b ≡ 0 → (b ≡ a → ⊥) → find_path rows b a ≡ None
unfolding find_path expand
start_idle rows b a e n =
    search_on 31 rows a 0 (begun b) (lit< tt) n
    ∙ rw (e, upward_zero 32 0) (search_end 31 rows a 1 (begun b) (lit≤ tt))
