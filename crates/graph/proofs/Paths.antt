-- What the search finds is a path (`path_found_lem`), and it finds one whenever a walk leads from b to a (`none_found`).
use mathlib.Core.Path.{◌≡◌, refl, sym, ap, ◌∙◌, subst}
use mathlib.Core.Logic.{◌⊎◌, inl, inr, ⊎_elim}
use mathlib.Core.List.{List, [], ◌∷◌, ◌++◌, foldl}
use mathlib.Core.Bool.{Bool, true, false}
use Rattle.std.specs.Prelude.{Option, None, Some}
use Rattle.std.proofs.lemmas.Option.{same_Some}
use Prim.Native.Nat.{ℕ, zero, suc, ◌+◌, ◌<◌, ◌≤◌, ◌^◌}
use native.Mathlib.Omega.{arith}
use native.Mathlib.Decide.{ℕ_discrete, dec_lt}
use lib.ListN.{get_or, length, length-append, get_or-append}
use lib.Seq.{get_or-append_seam}
use lib.Dec.{lit<}
use lib.Count.{ones, ones-le}
use Rattle.sets.specs.Sets.{bit, has, with, upward}
use Rattle.sets.specs.Lists.{In, Distinct}
use Rattle.sets.proofs.Digits.{has_bit, not_bit, bit_below, bit_with_same, bit_with_other, with_keeps, with_lt, ones_with, bit_zero, ones_single}
use Rattle.sets.proofs.Walk.{upward_lt, upward_bit, bit_upward}
use Rattle.sets.proofs.Lists.{pigeon}
use Rattle.sets.proofs.Below.{last_or}
use Rattle.graph.specs.Ways.{Walk, stop, step, Chain, Found}
use Rattle.graph.specs.Search.{row, Trail, visit, expand, way_back, search, begun, find_path}
use Rattle.graph.specs.Graph.{Edge}
use Rattle.graph.proofs.Trails.{search_met, search_on, search_end}
use Rattle.graph.proofs.Ways.{leads_walk}

-- None is no path.
pub none_some : {x : List ℕ} → None ≡ Some x → ⊥
none_some e = let z : ◌≡◌ {A = ℕ} 0 1 = cc in omega arith

-- Returns the thread at the place k.
abbrev pub th : Trail → ℕ → ℕ
th s k = get_or s.threads k 0

-- Returns the place of the parent of the thread at the place k.
abbrev pub pa : Trail → ℕ → ℕ
pa s k = get_or s.parents k 0

-- ---- Trails only grow

-- States that u has everything that s has: the threads seen, and the threads at their places.
record Grown (s u : Trail) : Type 0 where
  pub keeps : (x : ℕ) → bit s.seen x ≡ 1 → bit u.seen x ≡ 1
  pub same : (k : ℕ) → k < length s.threads → th u k ≡ th s k
  pub longer : length s.threads ≤ length u.threads

grown_refl : (s : Trail) → Grown s s
grown_refl s = record { keeps = λ x e. e; same = λ k h. refl; longer = omega arith }

grown_trans : (s u v : Trail) → Grown s u → Grown u v → Grown s v
grown_trans s u v p q =
    record {
      keeps = λ x e. q.keeps x (p.keeps x e);
      same = λ k h. q.same k (omega (arith, p.longer)) ∙ p.same k h;
      longer = omega (arith, p.longer, q.longer);
    }

-- Returns the trail with the thread n added, found from the place q.
abbrev pushed : ℕ → Trail → ℕ → Trail
pushed q s n = record { threads = s.threads ++ (n ∷ []); parents = s.parents ++ (q ∷ []); seen = with s.seen n }

module _ (q : ℕ) (s : Trail) (n : ℕ) where
  -- A visit changes nothing, or adds n.
  visit_cases : (has s.seen n ≡ true × visit q s n ≡ s) ⊎ (has s.seen n ≡ false × visit q s n ≡ pushed q s n)
  unfolding visit
  visit_cases = go (has s.seen n) refl
    where
      go : (t : Bool) → has s.seen n ≡ t → (has s.seen n ≡ true × visit q s n ≡ s) ⊎ (has s.seen n ≡ false × visit q s n ≡ pushed q s n)
      go true e = inl (e, rw e)
      go false e = inr (e, rw e)

  -- A visit only adds, and n is seen after it.
  visit_grown : Grown s (visit q s n)
  visit_grown =
      ⊎_elim (λ c. rw c.1 (grown_refl s))
      (λ c.
      rw c.1
      (record {
        keeps = with_keeps s.seen n;
        same = λ k h. get_or-append s.threads (n ∷ []) 0 k h;
        longer = omega (arith, length-append s.threads (n ∷ []));
      }))
      visit_cases

  visit_marks : bit (visit q s n).seen n ≡ 1
  visit_marks =
      ⊎_elim (λ c. rw c.1 (has_bit _ _ c.0)) (λ c. rw c.1 (bit_with_same s.seen n)) visit_cases

-- So do many visits.
fold_grown : (q : ℕ) (l : List ℕ) (s : Trail) → Grown s (foldl (visit q) s l)
fold_grown q [] s = grown_refl s
fold_grown q (x ∷ l) s = grown_trans _ _ _ (visit_grown q s x) (fold_grown q l (visit q s x))

fold_marks : (q : ℕ) (l : List ℕ) (s : Trail) (x : ℕ) → In x l → bit (foldl (visit q) s l).seen x ≡ 1
fold_marks q [] s x h = absurd h
fold_marks q (y ∷ l) s x h =
    ⊎_elim (λ e. rw e ((fold_grown q l (visit q s y)).keeps y (visit_marks q s y))) (λ i. fold_marks q l (visit q s y) x i) h

-- ---- What the search keeps to

-- States that every thread found is seen and stands once, that each but the first was found along an edge from one
-- before it, and that the first p threads are expanded and none of them is a.
pub record Kept (rows : List ℕ) (b a p : ℕ) (s : Trail) : Type 0 where
  pub fits : s.seen < 2 ^ 32
  pub counted : length s.threads ≡ ones s.seen
  pub paired : length s.parents ≡ length s.threads
  pub start : th s 0 ≡ b
  pub known : (k : ℕ) → k < length s.threads → bit s.seen (th s k) ≡ 1
  pub listed : (x : ℕ) → bit s.seen x ≡ 1 → (k : ℕ) × (k < length s.threads) × (th s k ≡ x)
  pub earlier : (k : ℕ) → 0 < k → k < length s.threads → pa s k < k
  pub edge : (k : ℕ) → 0 < k → k < length s.threads → Edge rows (th s (pa s k)) (th s k)
  pub apart : (j k : ℕ) → j < k → k < length s.threads → th s j ≡ th s k → ⊥
  pub done : (k : ℕ) → k < p → (y : ℕ) → Edge rows (th s k) y → bit s.seen y ≡ 1
  pub past : (k : ℕ) → k < p → th s k ≡ a → ⊥
  pub inside : p ≤ length s.threads
  pub some_thread : 0 < length s.threads

-- The thread n is added, found from the place q.
module _ (rows : List ℕ) (b a p q : ℕ) (s : Trail) (n : ℕ) (small : n < 32) (new : has s.seen n ≡ false)
    (near : q < length s.threads) (by : Edge rows (th s q) n) (h : Kept rows b a p s) where
  more : length (s.threads ++ (n ∷ [])) ≡ suc (length s.threads)
  more = length-append s.threads (n ∷ []) ∙ omega arith

  old : (k : ℕ) → k < length s.threads → get_or (s.threads ++ (n ∷ [])) k 0 ≡ th s k
  old k l = get_or-append s.threads (n ∷ []) 0 k l

  new_at : (k : ℕ) → k ≡ length s.threads → get_or (s.threads ++ (n ∷ [])) k 0 ≡ n
  new_at k e = ap (λ (j : ℕ). get_or (s.threads ++ (n ∷ [])) j 0) e ∙ get_or-append_seam s.threads n [] 0

  old_parent : (k : ℕ) → k < length s.threads → get_or (s.parents ++ (q ∷ [])) k 0 ≡ pa s k
  old_parent k l = get_or-append s.parents (q ∷ []) 0 k (omega (arith, h.paired))

  new_parent : (k : ℕ) → k ≡ length s.threads → get_or (s.parents ++ (q ∷ [])) k 0 ≡ q
  new_parent k e = ap (λ (j : ℕ). get_or (s.parents ++ (q ∷ [])) j 0) (e ∙ sym h.paired) ∙ get_or-append_seam s.parents q [] 0

  cases : (k : ℕ) → k < length (s.threads ++ (n ∷ [])) → (k < length s.threads) ⊎ (k ≡ length s.threads)
  cases k l = last_or k (length s.threads) (rw more at l)

  not_n : (k : ℕ) → k < length s.threads → th s k ≡ n → ⊥
  not_n k l e = omega (arith, rw e at (h.known k l), not_bit _ _ new)

  -- The trail with n still keeps to it.
  pushed_kept : Kept rows b a p (pushed q s n)
  pushed_kept =
      record {
        fits = with_lt 32 s.seen n h.fits small;
        counted = omega (arith, more, h.counted, ones_with s.seen n (not_bit _ _ new));
        paired = omega (arith, more, h.paired, length-append s.parents (q ∷ []));
        start = old 0 h.some_thread ∙ h.start;
        known = λ k l. ⊎_elim (λ i. rw (old k i) (with_keeps s.seen n (th s k) (h.known k i))) (λ e. rw (new_at k e) (bit_with_same s.seen n)) (cases k l);
        listed = λ x e. list x e (ℕ_discrete x n);
        earlier = λ k z l. ⊎_elim (λ i. rw (old_parent k i) (h.earlier k z i)) (λ e. rw (new_parent k e) (omega arith)) (cases k l);
        edge = λ k z l. ⊎_elim
            (λ i. rw (old_parent k i, old k i, old (pa s k) (omega (arith, h.earlier k z i))) (h.edge k z i))
            (λ e. rw (new_parent k e, new_at k e, old q near) by) (cases k l);
        apart = λ j k i l e. ⊎_elim
            (λ m. h.apart j k i m (sym (old j (omega arith)) ∙ e ∙ old k m))
            (λ m. not_n j (omega arith) (sym (old j (omega arith)) ∙ e ∙ new_at k m)) (cases k l);
        done = λ k i y e. with_keeps s.seen n y (h.done k i y (rw (old k (omega (arith, h.inside))) at e));
        past = λ k i e. h.past k i (sym (old k (omega (arith, h.inside))) ∙ e);
        inside = omega (arith, more, h.inside);
        some_thread = omega (arith, more);
      }
    where
      list : (x : ℕ) → bit (with s.seen n) x ≡ 1 → Dec (x ≡ n)
          → (k : ℕ) × (k < length (s.threads ++ (n ∷ []))) × (get_or (s.threads ++ (n ∷ [])) k 0 ≡ x)
      list x e (yes i) = (length s.threads, omega (arith, more), new_at _ refl ∙ sym i)
      list x e (no i) =
          let o = h.listed x (sym (bit_with_other s.seen n x i) ∙ e) in
          (o.0, omega (arith, o.1, more), old o.0 o.1 ∙ o.2)

module _ (rows : List ℕ) (b a p q : ℕ) where
  -- Visits keep to it.
  visit_kept : (s : Trail) (n : ℕ) → n < 32 → q < length s.threads → Edge rows (th s q) n → Kept rows b a p s → Kept rows b a p (visit q s n)
  visit_kept s n small near by h =
      ⊎_elim (λ c. rw c.1 h) (λ c. rw c.1 (pushed_kept rows b a p q s n small c.0 near by h)) (visit_cases q s n)

  fold_kept : (l : List ℕ) (s : Trail) → ((x : ℕ) → In x l → (x < 32) × Edge rows (th s q) x) → q < length s.threads → Kept rows b a p s
      → Kept rows b a p (foldl (visit q) s l)
  fold_kept [] s m near h = h
  fold_kept (x ∷ l) s m near h =
      let g = visit_grown q s x in
      fold_kept l (visit q s x) (λ y i. ((m y (inr i)).0, rw (g.same q near) (m y (inr i)).1)) (omega (arith, g.longer))
      (visit_kept s x (m x (inl refl)).0 near (m x (inl refl)).1 h)

module _ (rows : List ℕ) (narrow : (i : ℕ) → row rows i < 2 ^ 32) (b a : ℕ) where
  -- After the thread at the place p is expanded, the first p + 1 are.
  next_kept : (p : ℕ) (s : Trail) → p < length s.threads → (th s p ≡ a → ⊥) → Kept rows b a p s
      → Kept rows b a (suc p) (expand p s (row rows (th s p)))
  unfolding expand
  next_kept p s l n kept =
      let m = row rows (th s p) in
      let g = fold_grown p (upward 32 m) s in
      let f = fold_kept rows b a p p (upward 32 m) s (λ x i. (upward_lt 32 m x i, upward_bit 32 m x i)) l kept in
      let t : Trail = foldl (visit p) s (upward 32 m) in
      let here : (k : ℕ) → k ≡ p → th t k ≡ th s p = λ k j. ap (λ (i : ℕ). th t i) j ∙ g.same p l in
      record {
        fits = f.fits;
        counted = f.counted;
        paired = f.paired;
        start = f.start;
        known = f.known;
        listed = f.listed;
        earlier = f.earlier;
        edge = f.edge;
        apart = f.apart;
        done = λ k i y e. ⊎_elim (λ j. f.done k j y e)
            (λ j. fold_marks p (upward 32 m) s y (bit_upward 32 m y (narrow _) (ap (λ (x : ℕ). bit (row rows x) y) (sym (here k j)) ∙ e))) (last_or k p i);
        past = λ k i e. ⊎_elim (λ j. f.past k j e) (λ j. n (sym (here k j) ∙ e)) (last_or k p i);
        inside = omega (arith, l, g.longer);
        some_thread = f.some_thread;
      }

  -- The trail with b alone keeps to it.
  begun_kept : b < 32 → Kept rows b a 0 (begun b)
  begun_kept h =
      record {
        fits = with_lt 32 0 b (lit< tt) h;
        counted = sym (ones_single b);
        paired = refl;
        start = refl;
        known = λ k l. let z : k ≡ 0 = omega arith in rw z (bit_with_same 0 b);
        listed = λ x e. (0, lit< tt, only x e (ℕ_discrete x b));
        earlier = λ k z l. absurd (omega arith);
        edge = λ k z l. absurd (omega arith);
        apart = λ j k i l e. absurd (omega arith);
        done = λ k i. absurd (omega arith);
        past = λ k i. absurd (omega arith);
        inside = omega arith;
        some_thread = lit< tt;
      }
    where
      only : (x : ℕ) → bit (with 0 b) x ≡ 1 → Dec (x ≡ b) → b ≡ x
      only x e (yes p) = sym p
      only x e (no p) = absurd (omega (arith, bit_with_other 0 b x p, bit_zero x))

-- At most 32 threads are found.
pub few : (rows : List ℕ) (b a p : ℕ) (s : Trail) → Kept rows b a p s → length s.threads ≤ 32
few rows b a p s h = omega (arith, h.counted, ones-le 32 s.seen h.fits)

-- ---- Following the parents gives a path

module _ (rows : List ℕ) (b a p : ℕ) (s : Trail) (h : Kept rows b a p s) where
  -- States that acc leads from the thread at the place k to a, through threads at later places, each once.
  record Tail (k : ℕ) (acc : List ℕ) : Type 0 where
    pub chain : Chain (Edge rows) (th s k) acc a
    pub once : Distinct acc
    pub later : (x : ℕ) → In x acc → (j : ℕ) × (k < j) × (j < length s.threads) × (th s j ≡ x)

  -- The thread at the place k does not stand in acc.
  fresh : (k : ℕ) (acc : List ℕ) → Tail k acc → In (th s k) acc → ⊥
  fresh k acc t m = let j = t.later (th s k) m in h.apart k j.0 j.1 j.2 (sym j.3)

  -- The tail may start one parent earlier.
  tail_back : (k : ℕ) (acc : List ℕ) → 0 < k → k < length s.threads → Tail k acc → Tail (pa s k) (th s k ∷ acc)
  tail_back k acc z l t =
      record {
        chain = (h.edge k z l, t.chain);
        once = (fresh k acc t, t.once);
        later = λ x m. ⊎_elim
            {C = (j : ℕ) × (pa s k < j) × (j < length s.threads) × (th s j ≡ x)}
            (λ e. (k, h.earlier k z l, l, sym e))
            (λ i. let j = t.later x i in (j.0, omega (arith, j.1, h.earlier k z l), j.2, j.3)) m;
      }

  -- At the first thread it is a path from b to a.
  at_start : (acc : List ℕ) → Tail 0 acc → Found (Edge rows) b a (th s 0 ∷ acc)
  at_start acc t = record { leads = (h.start, t.chain); distinct = (fresh 0 acc t, t.once) }

  -- Following the parents gives such a path.
  back_found : (f k : ℕ) (acc : List ℕ) → k ≤ f → k < length s.threads → Tail k acc → Found (Edge rows) b a (way_back f s k acc)
  unfolding way_back
  back_found zero k acc i l t = let z : k ≡ 0 = omega arith in rw z (at_start acc (rw z at t))
  back_found (suc f) zero acc i l t = at_start acc t
  back_found (suc f) (suc k) acc i l t =
      let e = h.earlier (suc k) (omega arith) l in
      back_found f (pa s (suc k)) (th s (suc k) ∷ acc) (omega (arith, e)) (omega (arith, e)) (tail_back (suc k) acc (omega arith) l t)

  -- When a is met, following the parents gives a path from b to a.
  met_found : p < length s.threads → th s p ≡ a → Found (Edge rows) b a (way_back 31 s p [])
  met_found l e =
      back_found 31 p [] (omega (arith, few rows b a p s h)) l
      (record { chain = e; once = tt; later = λ x m. absurd m })

-- ---- The search as a whole

module _ (rows : List ℕ) (narrow : (i : ℕ) → row rows i < 2 ^ 32) (b a : ℕ) where
  -- Returns the trail after the thread at the place p was expanded.
  abbrev on : ℕ → Trail → Trail
  on p s = expand p s (row rows (th s p))

  -- If the search ends with a path, it is one from b to a.
  search_found : (f p : ℕ) (s : Trail) (l : List ℕ) → Kept rows b a p s → search f rows a p s ≡ Some l → Found (Edge rows) b a l
  unfolding search
  search_found zero p s l h r = absurd (none_some r)
  search_found (suc f) p s l h r =
      go (dec_lt p (length s.threads)) (ℕ_discrete (th s p) a)
      (λ i n. search_found f (suc p) (on p s) l (next_kept rows narrow b a p s i n h) (sym (search_on f rows a p s i n) ∙ r))
    where
      go : Dec (p < length s.threads) → Dec (th s p ≡ a) → (p < length s.threads → (th s p ≡ a → ⊥) → Found (Edge rows) b a l) → Found (Edge rows) b a l
      go (yes i) (yes e) next =
          subst (Found (Edge rows) b a) (same_Some _ _ (sym (search_met f rows a p s i e) ∙ r)) (met_found rows b a p s h i e)
      go (yes i) (no n) next = next i n
      go (no i) d next = absurd (none_some (sym (search_end (suc f) rows a p s (omega arith)) ∙ r))

  -- If it ends with none, every thread found is expanded.
  search_closed : (f p : ℕ) (s : Trail) → f + p ≡ 32 → Kept rows b a p s → search f rows a p s ≡ None
      → (u : Trail) × Grown s u × Kept rows b a (length u.threads) u
  unfolding expand
  search_closed zero p s e h r =
      let l : p ≡ length s.threads = omega (arith, h.inside, few rows b a p s h) in
      (s, grown_refl s, rw l at h)
  search_closed (suc f) p s e h r =
      go (dec_lt p (length s.threads)) (ℕ_discrete (th s p) a)
      (λ l n. search_closed f (suc p) (on p s) (omega arith) (next_kept rows narrow b a p s l n h) (sym (search_on f rows a p s l n) ∙ r))
    where
      grows : Grown s (on p s)
      grows = fold_grown p (upward 32 (row rows (th s p))) s

      go : Dec (p < length s.threads) → Dec (th s p ≡ a)
          → (p < length s.threads → (th s p ≡ a → ⊥) → (u : Trail) × Grown (on p s) u × Kept rows b a (length u.threads) u)
          → (u : Trail) × Grown s u × Kept rows b a (length u.threads) u
      go (yes l) (yes i) next = absurd (none_some (sym r ∙ search_met f rows a p s l i))
      go (yes l) (no n) next = let t = next l n in (t.0, grown_trans s _ t.0 grows t.1, t.2)
      go (no l) d next =
          let q : p ≡ length s.threads = omega (arith, h.inside) in
          (s, grown_refl s, rw q at h)

  -- Turns after the 32nd find nothing more.
  more_turns : (k f p : ℕ) (s : Trail) → f + p ≡ 32 → Kept rows b a p s → search (f + k) rows a p s ≡ search f rows a p s
  unfolding search
  more_turns k zero p s e h = search_end (0 + k) rows a p s (omega (arith, few rows b a p s h))
  more_turns k (suc f) p s e h =
      go (dec_lt p (length s.threads)) (ℕ_discrete (th s p) a)
      (λ l n. more_turns k f (suc p) (on p s) (omega arith) (next_kept rows narrow b a p s l n h))
    where
      z : suc f + k ≡ suc (f + k)
      z = omega arith

      go : Dec (p < length s.threads) → Dec (th s p ≡ a)
          → (p < length s.threads → (th s p ≡ a → ⊥) → search (f + k) rows a (suc p) (on p s) ≡ search f rows a (suc p) (on p s))
          → search (suc f + k) rows a p s ≡ search (suc f) rows a p s
      go (yes l) (yes i) next = rw z (search_met (f + k) rows a p s l i ∙ sym (search_met f rows a p s l i))
      go (yes l) (no n) next = rw z (search_on (f + k) rows a p s l n ∙ next l n ∙ sym (search_on f rows a p s l n))
      go (no l) d next = search_end (suc f + k) rows a p s (omega arith) ∙ sym (search_end (suc f) rows a p s (omega arith))

  -- When every thread found is expanded and none is a, no walk leads from a thread that is seen to a.
  never : (u : Trail) → Kept rows b a (length u.threads) u → {x y : ℕ} → Walk (Edge rows) x y → y ≡ a → bit u.seen x ≡ 1 → ⊥
  never u kept (stop {a = x} i) q e = let l = kept.listed x e in kept.past l.0 l.1 (l.2 ∙ i ∙ q)
  never u kept (step {a = x} {c = y} d w) q e =
      let l = kept.listed x e in
      never u kept w q (kept.done l.0 l.1 y (rw l.2 d))

-- ---- THEOREMS

module _ (rows : List ℕ) (narrow : (i : ℕ) → row rows i < 2 ^ 32) (b a : ℕ) (small : b < 32) where
  -- A path that is found starts at b, ends at a, goes along edges, and has no thread twice.
  pub path_found_lem : (p : List ℕ) → find_path rows b a ≡ Some p → Found (Edge rows) b a p
  unfolding find_path
  path_found_lem p r = search_found rows narrow b a 32 0 (begun b) p (begun_kept rows narrow b a small) r

  -- If none is found, no walk leads from b to a.
  pub none_found : find_path rows b a ≡ None → Walk (Edge rows) b a → ⊥
  unfolding find_path
  none_found r w =
      let k = begun_kept rows narrow b a small in
      let t = search_closed rows narrow b a 32 0 (begun b) refl k r in
      never rows narrow b a t.0 t.2 w refl (t.1.keeps b (bit_with_same 0 b))

  -- If a walk leads from b to a, a path is found.
  pub way_found : Walk (Edge rows) b a → (p : List ℕ) × (find_path rows b a ≡ Some p)
  way_found w = go (find_path rows b a) refl
    where
      go : (o : Option (List ℕ)) → find_path rows b a ≡ o → (p : List ℕ) × (find_path rows b a ≡ Some p)
      go None e = absurd (none_found e w)
      go (Some p) e = (p, e)

  -- So it is decided whether a walk leads from b to a.
  pub walk_cases : Walk (Edge rows) b a ⊎ (Walk (Edge rows) b a → ⊥)
  walk_cases = go (find_path rows b a) refl
    where
      go : (o : Option (List ℕ)) → find_path rows b a ≡ o → Walk (Edge rows) b a ⊎ (Walk (Edge rows) b a → ⊥)
      go None e = inr (none_found e)
      go (Some p) e = inl (leads_walk (Edge rows) b a p (path_found_lem p e).leads)

  -- With 32 rows the search needs no more than 32 turns.
  pub turns_enough : (k : ℕ) → search (32 + k) rows a 0 (begun b) ≡ find_path rows b a
  unfolding find_path
  turns_enough k = more_turns rows narrow b a k 32 0 (begun b) refl (begun_kept rows narrow b a small)

-- Every thread that an edge leads to is below 32.
edge_small : (rows : List ℕ) → ((i : ℕ) → row rows i < 2 ^ 32) → (x y : ℕ) → Edge rows x y → y < 32
edge_small rows narrow x y e = bit_below 32 (row rows x) y (narrow x) e

chain_small : (rows : List ℕ) → ((i : ℕ) → row rows i < 2 ^ 32) → (x : ℕ) (r : List ℕ) (z : ℕ) → Chain (Edge rows) x r z → (y : ℕ) → In y r → y < 32
chain_small rows narrow x [] z k y x4 = elim x4 [ ]
chain_small rows narrow x (c ∷ r) z k y (inl e) = rw e (edge_small rows narrow x c k.0)
chain_small rows narrow x (c ∷ r) z k y (inr m) = chain_small rows narrow c r z k.1 y m

-- A path has at most 32 threads, each below 32.
pub path_small : (rows : List ℕ) → ((i : ℕ) → row rows i < 2 ^ 32) → (b a : ℕ) → b < 32 → (p : List ℕ) → Found (Edge rows) b a p → (y : ℕ) → In y p → y < 32
path_small rows narrow b a small [] f y x'' = elim x'' [ ]
path_small rows narrow b a small (x ∷ r) f y (inl e) = rw (e, f.leads.0) small
path_small rows narrow b a small (x ∷ r) f y (inr m) = chain_small rows narrow x r a f.leads.1 y m

pub path_short : (rows : List ℕ) → ((i : ℕ) → row rows i < 2 ^ 32) → (b a : ℕ) → b < 32 → (p : List ℕ) → Found (Edge rows) b a p → length p ≤ 32
path_short rows narrow b a small p f = pigeon 32 p f.distinct (path_small rows narrow b a small p f)

-- The path from a to a is a alone.
pub self_found : (rows : List ℕ) (a : ℕ) → find_path rows a a ≡ Some (a ∷ [])
unfolding find_path way_back
self_found rows a = search_met 31 rows a 0 (begun a) (lit< tt) refl
