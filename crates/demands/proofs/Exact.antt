-- In a state whose edges are the true waits, a blocked attempt is reported if and only if the true waits after
-- it have a cycle.
use mathlib.Core.Path.{◌≡◌, refl, sym, ap, ◌∙◌, subst}
use mathlib.Core.Logic.{◌⊎◌, inl, inr, ◌↔◌}
use mathlib.Core.List.{List, [], ◌∷◌}
use mathlib.Core.Bool.{Bool, true, false, not, cond, true≢false, false≢true}
use Rattle.std.specs.Prelude.{Option, None, Some}
use Rattle.std.proofs.lemmas.Option.{same_Some}
use Prim.Native.Nat.{ℕ, ◌<◌}
use native.Mathlib.Omega.{arith}
use native.Mathlib.Decide.{ℕ_discrete, dec_lt}
use lib.Dec.{eqb, lit<}
use lib.ListN.{get_or, set, length, length-set, get_or-eq_default}
use lib.Seq.{get_or-set_same, get_or-set_other, set-get_or}
use borrow.Author.Tests.{eq-eqb, eqb-true}
use Rattle.sets.specs.Sets.{bit, has}
use Rattle.sets.specs.Lists.{In, among}
use Rattle.sets.specs.Below.{those}
use Rattle.sets.proofs.Digits.{bit_zero, bit_below}
use Rattle.waits.proofs.Masks.{in_nothing}
use Rattle.sets.proofs.Lists.{among_in, in_among, both}
use Rattle.sets.proofs.Below.{those_in, in_those}
use Rattle.graph.specs.Ways.{Rel, Acyclic, Cycle, Fan, Round, Ring}
use Rattle.graph.specs.Search.{row}
use Rattle.graph.specs.Graph.{one, clear_wait_edges, add_owners, Edge}
use Rattle.graph.specs.declared.wait_for_graph.WaitForGraph.{WaitForGraph}
use Rattle.graph.proofs.Ways.{no_cycle, acyclic_within, ring_map, ring_cycle}
use Rattle.graph.proofs.Good.{cleared_edge}
use Rattle.graph.proofs.Register.{register_ring, register_none}
use Rattle.waits.specs.Tables.{intent_of, holds_of, owner_of, writer_of, with_graph, own, write}
use Rattle.waits.specs.Counts.{count_of, reads, readers}
use Rattle.waits.specs.Owners.{then_writer, owners_for, owners, blocking, waits_for}
use Rattle.waits.specs.Waiting.{unwaited, clear, set_intent, register}
use Rattle.waits.specs.Filter.{nothing, all_hold, nobody_reads, common_locks, passes}
use Rattle.waits.specs.Report.{Judging, quiet, reporting}
use Rattle.waits.specs.Validate.{around, valid, names, validate}
use Rattle.waits.specs.Attempt.{judge_found, sieve_found, block, block_mutex, mutex_on, read_on, write_on, free, block_write}
use Rattle.waits.specs.declared.tables.Waits.{Waits}
use Rattle.waits.specs.declared.intent.WaitIntent.{WaitIntent}
use Rattle.waits.specs.declared.intent.WaitMode.{WaitMode}
use Rattle.waits.specs.declared.intent.WaitMode.TheVariants.{Mutex, RwRead, RwWrite}
use Rattle.waits.specs.declared.outcome.Outcome.{Outcome}
use Rattle.waits.specs.declared.outcome.Outcome.TheVariants.{Took, Blocked, Hinted}
use Rattle.waits.proofs.Laws.{owners_lt}
use Rattle.detector.specs.Tables.{Tables}
use Rattle.detector.specs.Mutex.{acquire_slow}
use Rattle.detector.specs.RwLock.{acquire_read, acquire_write}
use Rattle.detector.specs.Events.{apply}
use Rattle.detector.specs.Refusals.{Inside, numbers_of}
use Rattle.detector.specs.Stuck.{Truly}
use Rattle.detector.specs.declared.event.Event.TheVariants.{MutexAttempt, RwReadAttempt, RwWriteAttempt}
use Rattle.demands.specs.Invariants.{Fine, Kept}
use Rattle.demands.specs.Demand3.{Exact, Alone, Apt, Shared, Spared, SecondHalf}
use Rattle.demands.proofs.Fine.{unwaited_graph, fine_own, fine_write, fine_set}
use Rattle.detector.proofs.Numbers.{accepted}
use Rattle.detector.proofs.Serving.{effect_served}
use Rattle.demands.proofs.Invariants.{reached_kept}

-- States that a truly waits for b, in waits w with reader counts c.
abbrev True : List ℕ → Waits → Rel
True c w a b = waits_for c w a b ≡ true

-- ---- The owners depend on two tables alone

owners_same : (c : List ℕ) (v w : Waits) (i : WaitIntent) → owner_of v i.lock_id ≡ owner_of w i.lock_id → writer_of v i.lock_id ≡ writer_of w i.lock_id
    → owners c v i ≡ owners c w i
owners_same c v w i p q = go i.mode
  where
    go : (m : WaitMode) → owners_for c v i.lock_id m ≡ owners_for c w i.lock_id m
    go Mutex = ap one p
    go RwRead = ap one q
    go RwWrite = ap (then_writer (readers c i.lock_id)) q

blocking_same : (c : List ℕ) (v w : Waits) → (v.mutex_owners ≡ w.mutex_owners) → (v.rwlock_writer ≡ w.rwlock_writer) → (a : Option WaitIntent) → blocking c v a ≡ blocking c w a
blocking_same c v w p q None = refl
blocking_same c v w p q (Some i) = owners_same c v w i (ap (λ (l : List ℕ). row l i.lock_id) p) (ap (λ (l : List ℕ). row l i.lock_id) q)

-- So true waits depend on three.
waits_same : (c : List ℕ) (v w : Waits) → (v.thread_waits_for ≡ w.thread_waits_for) → (v.mutex_owners ≡ w.mutex_owners) → (v.rwlock_writer ≡ w.rwlock_writer)
    → (a b : ℕ) → waits_for c v a b ≡ waits_for c w a b
unfolding waits_for
waits_same c v w s p q a b = ap (λ (z : List (Option WaitIntent)). among b (blocking c v (get_or z a None))) s ∙ ap (among b) (blocking_same c v w p q (intent_of w a))

-- ---- What setting an intent changes

module _ (v : Waits) (t : ℕ) (i : WaitIntent) where
  set_graph : (set_intent v t i).wait_for_graph ≡ clear_wait_edges v.wait_for_graph t
  unfolding set_intent clear
  set_graph = ap (λ (g : WaitForGraph). clear_wait_edges g t) (unwaited_graph v t (intent_of v t))

  set_same : length v.thread_waits_for ≡ 32 → t < 32 → intent_of (set_intent v t i) t ≡ Some i
  unfolding set_intent clear
  set_same n h = (get_or-set_same (unwaited v t (intent_of v t)).thread_waits_for t (Some i) None (rw (long (intent_of v t)) h))
    where
      long : (a : Option WaitIntent) → length (unwaited v t a).thread_waits_for ≡ 32
      long None = n
      long (Some j) = simp length-set n

  set_other : (a : ℕ) → (a ≡ t → ⊥) → intent_of (set_intent v t i) a ≡ intent_of v a
  unfolding set_intent clear
  set_other a d = (get_or-set_other (unwaited v t (intent_of v t)).thread_waits_for t a (Some i) None d ∙ go (intent_of v t))
    where
      go : (b : Option WaitIntent) → get_or (unwaited v t b).thread_waits_for a None ≡ get_or v.thread_waits_for a None
      go None = refl
      go (Some j) = get_or-set_other v.thread_waits_for t a None None d

  set_blocking : (c : List ℕ) (a : Option WaitIntent) → blocking c (set_intent v t i) a ≡ blocking c v a
  unfolding set_intent clear
  set_blocking c a = blocking_same c (set_intent v t i) v (p (intent_of v t)) (q (intent_of v t)) a
    where
      p : (b : Option WaitIntent) → (unwaited v t b).mutex_owners ≡ v.mutex_owners
      p None = refl
      p (Some j) = refl

      q : (b : Option WaitIntent) → (unwaited v t b).rwlock_writer ≡ v.rwlock_writer
      q None = refl
      q (Some j) = refl

-- ---- Registering where the edges of all other threads are their true waits

-- States that the edges of all threads but t are their true waits.
abbrev ExactBut : List ℕ → Waits → ℕ → Type 0
ExactBut c v t = (a b : ℕ) → (a ≡ t → ⊥) → Edge v.wait_for_graph.edges a b ↔ True c v a b

module _ (c : List ℕ) (v : Waits) (t : ℕ) (i : WaitIntent) (h : t < 32) (k : i.lock_id < 64) (f : Fine v) (x : ExactBut c v t) where
  abbrev u : Waits
  u = set_intent v t i

  abbrev E : Rel
  E = Edge u.wait_for_graph.edges

  uf : Fine (set_intent v t i)
  uf = fine_set v t i h k f

  others : (a b : ℕ) → E a b ↔ ((a ≡ t → ⊥) × Edge v.wait_for_graph.edges a b)
  others a b =
      subst (λ (g : WaitForGraph). Edge g.edges a b ↔ ((a ≡ t → ⊥) × Edge v.wait_for_graph.edges a b)) (sym (set_graph v t i))
      (cleared_edge v.wait_for_graph t f.graph.sized h a b)

  waits_other : (a b : ℕ) → (a ≡ t → ⊥) → waits_for c u a b ≡ waits_for c v a b
  unfolding waits_for
  waits_other a b d = ap (λ (z : Option WaitIntent). among b (blocking c u z)) (set_other v t i a d) ∙ ap (among b) (set_blocking v t i c (intent_of v a))

  waits_own : (b : ℕ) → waits_for c u t b ≡ among b (owners c u i)
  unfolding waits_for
  waits_own b = ap (λ (z : Option WaitIntent). among b (blocking c u z)) (set_same v t i f.shaped.threads h)

  true_fan : (a b : ℕ) → True c u a b ↔ Fan E t (owners c u i) a b
  true_fan a b = (λ e. to e (ℕ_discrete a t), fro)
    where
      to : True c u a b → Dec (a ≡ t) → Fan E t (owners c u i) a b
      to e (yes p) = inr (p, among_in b _ (sym (waits_own b) ∙ ap (λ (z : ℕ). waits_for c u z b) (sym p) ∙ e))
      to e (no d) = inl ((others a b).1 (d, (x a b d).1 (sym (waits_other a b d) ∙ e)))

      fro : Fan E t (owners c u i) a b → True c u a b
      fro (inl e) = let p = (others a b).0 e in waits_other a b p.0 ∙ (x a b p.0).0 p.1
      fro (inr p) = ap (λ (z : ℕ). waits_for c u z b) p.0 ∙ waits_own b ∙ in_among b _ p.1

  registered : (a b : ℕ) → waits_for c (register c v t i).waits a b ≡ waits_for c u a b
  unfolding register
  registered = waits_same c (with_graph u (add_owners t u.wait_for_graph (owners c u i)).graph) u refl refl refl

  found_ring : (p : List ℕ) → (register c v t i).found ≡ Some p → Ring (True c (register c v t i).waits) p
  unfolding register
  found_ring p e =
      ring_map (Fan E t (owners c u i)) (True c (register c v t i).waits) (λ a b z. registered a b ∙ (true_fan a b).1 z) p
      (register_ring t h (owners c u i) (owners_lt c u i) u.wait_for_graph uf.graph.sized p e).0

  none_acyclic : (register c v t i).found ≡ None → Acyclic (True c (register c v t i).waits)
  unfolding register
  none_acyclic e =
      acyclic_within (True c (register c v t i).waits) (Fan E t (owners c u i)) (λ a b z. (true_fan a b).0 (sym (registered a b) ∙ z))
      (register_none t h (owners c u i) (owners_lt c u i) u.wait_for_graph uf.graph e)

-- ---- A ring of true waits is valid

around_of : (c : List ℕ) (w : Waits) (f a : ℕ) (r : List ℕ) → Round (True c w) f a r → around c w f a r ≡ true
unfolding around
around_of c w f a [] i = i
around_of c w f a (b ∷ r) i = rw i.0 (around_of c w f b r i.1)

valid_of : (c : List ℕ) (w : Waits) (p : List ℕ) → Ring (True c w) p → valid c w p ≡ true
unfolding valid
valid_of c w [] i = elim i [ ]
valid_of c w (a ∷ r) i = around_of c w a a r i

validate_of : (c : List ℕ) (w : Waits) (p : List ℕ) → Ring (True c w) p → validate c w p ≡ reporting w p
unfolding validate
validate_of c w p i = rw (valid_of c w p i)

-- ---- What is reported and what is true

-- States that there is a report if and only if the true waits have a cycle.
abbrev Decides : List ℕ → Judging → Type 0
Decides c a = (0 < length a.reports) ↔ Cycle (True c a.waits)

decides_found : (c : List ℕ) (w : Waits) (p : List ℕ) → Ring (True c w) p → Decides c (validate c w p)
decides_found c w p i = subst (Decides c) (sym (validate_of c w p i)) (λ r. ring_cycle (True c w) p i, λ z. lit< tt)

decides_none : (c : List ℕ) (w : Waits) → Acyclic (True c w) → Decides c (quiet w)
decides_none c w h = (λ r. absurd (omega arith), λ z. absurd (no_cycle (True c w) h z))

-- ---- The filter

held_all : (w : Waits) (l : ℕ) (p : List ℕ) → all_hold w p l ≡ true → (t : ℕ) → In t p → has (holds_of w t) l ≡ true
unfolding all_hold
held_all w l [] e t x'' = elim x'' [ ]
held_all w l (s ∷ p) e t (inl q) = ap (λ (z : ℕ). has (holds_of w z) l) q ∙ (both (has (holds_of w s) l) (all_hold w p l) e).0
held_all w l (s ∷ p) e t (inr m) = held_all w l p (both (has (holds_of w s) l) (all_hold w p l) e).1 t m

all_held : (w : Waits) (l : ℕ) (p : List ℕ) → ((t : ℕ) → In t p → has (holds_of w t) l ≡ true) → all_hold w p l ≡ true
unfolding all_hold
all_held w l [] h = refl
all_held w l (s ∷ p) h = rw (h s (inl refl)) (all_held w l p (λ t m. h t (inr m)))

nothing_none : (l : List ℕ) → nothing l ≡ true → (y : ℕ) → In y l → ⊥
nothing_none [] e y m = m
nothing_none (z ∷ l) e y m = false≢true e

something : (l : List ℕ) → nothing l ≡ false → (y : ℕ) × In y l
something [] e = absurd (true≢false e)
something (z ∷ l) e = (z, inl refl)

nobody_zero : (c : List ℕ) (l : ℕ) → nobody_reads c l ≡ true → (t : ℕ) → t < 32 → count_of c t l ≡ 0
unfolding readers
nobody_zero c l e t h = go (eqb (count_of c t l) 0) refl
  where
    go : (b : Bool) → eqb (count_of c t l) 0 ≡ b → count_of c t l ≡ 0
    go true q = eqb-true _ _ q
    go false q = absurd (nothing_none (those (λ t. reads c t l) 32) e t (in_those (λ t. reads c t l) 32 t h (ap not q)))

zero_nobody : (c : List ℕ) (l : ℕ) → ((t : ℕ) → t < 32 → count_of c t l ≡ 0) → nobody_reads c l ≡ true
unfolding readers
zero_nobody c l h =
    in_nothing (those (λ t. reads c t l) 32) (λ t m. let q = those_in (λ t. reads c t l) 32 t m in false≢true (sym (ap not (eq-eqb (count_of c t l) 0 (h t q.0))) ∙ q.1))

shared_of : (c : List ℕ) (w : Waits) (p : List ℕ) → passes c w p ≡ false → Shared c w p
unfolding common_locks
shared_of c w p e =
    let s = something (those (λ l. cond (all_hold w p l) (nobody_reads c l) false) 64) e in
    let q = those_in (λ l. cond (all_hold w p l) (nobody_reads c l) false) 64 s.0 s.1 in
    let b = both (all_hold w p s.0) (nobody_reads c s.0) q.1 in
    record { lock = s.0; inside = q.0; held = held_all w s.0 p b.0; nobody_reads = nobody_zero c s.0 b.1 }

of_shared : (c : List ℕ) (w : Waits) (p : List ℕ) → passes c w p ≡ true → Shared c w p → ⊥
unfolding common_locks
of_shared c w p e k =
    nothing_none (those (λ l. cond (all_hold w p l) (nobody_reads c l) false) 64) e k.lock
    (in_those (λ l. cond (all_hold w p l) (nobody_reads c l) false) 64 k.lock k.inside
    (ap (λ (b : Bool). cond b (nobody_reads c k.lock) false) (all_held w k.lock p k.held) ∙ zero_nobody c k.lock k.nobody_reads))

-- States that there is a report if and only if the true waits have a cycle and the threads of the path found
-- share no lock that nobody reads.
abbrev DecidesMutex : List ℕ → Option (List ℕ) → Judging → Type 0
DecidesMutex c o a = (0 < length a.reports) ↔ (Cycle (True c a.waits) × ((p : List ℕ) → o ≡ Some p → Shared c a.waits p → ⊥))

module _ (c : List ℕ) (v : Waits) (t : ℕ) (h : t < 32) (f : Fine v) (x : ExactBut c v t) where
  decides_block : (i : WaitIntent) → i.lock_id < 64 → Decides c (block c v t i)
  unfolding block
  decides_block i k = go (register c v t i).found refl
    where
      go : (o : Option (List ℕ)) → (register c v t i).found ≡ o → Decides c (judge_found c (register c v t i).waits o)
      go None e = decides_none c (register c v t i).waits (none_acyclic c v t i h k f x e)
      go (Some p) e = decides_found c (register c v t i).waits p (found_ring c v t i h k f x p e)

  decides_mutex : (l : ℕ) → l < 64 → DecidesMutex c (register c v t (mutex_on l)).found (block_mutex c v t l)
  unfolding block_mutex
  decides_mutex l k = go (register c v t (mutex_on l)).found refl
    where
      w : Waits
      w = (register c v t (mutex_on l)).waits

      pass : (p : List ℕ) (b : Bool) → passes c w p ≡ b → Ring (True c w) p → DecidesMutex c (Some p) (cond b (validate c w p) (quiet w))
      pass p true e i = subst (DecidesMutex c (Some p)) (sym (validate_of c w p i))
          (λ r. (ring_cycle (True c w) p i, λ q z y. of_shared c w p e (subst (Shared c w) (sym (same_Some p q z)) y)), λ z. lit< tt)
      pass p false e i = (λ r. absurd (omega arith), λ z. absurd (z.1 p refl (shared_of c w p e)))

      go : (o : Option (List ℕ)) → (register c v t (mutex_on l)).found ≡ o → DecidesMutex c o (sieve_found c w o)
      go None e = (λ r. absurd (omega arith), λ z. absurd (no_cycle (True c w) (none_acyclic c v t (mutex_on l) h k f x e) z.0))
      go (Some p) e = pass p (passes c w p) refl (found_ring c v t (mutex_on l) h k f x p e)

  -- A writer that finds neither readers nor a writer waits for nobody.
  decides_write : (l : ℕ) → l < 64 → (free c v l ≡ true → Acyclic (True c v)) → Decides c (block_write c v t l)
  unfolding block_write
  decides_write l k calm = go (free c v l) refl
    where
      go : (b : Bool) → free c v l ≡ b → Decides c (cond b (quiet v) (block c v t (write_on l)))
      go true e = decides_none c v (calm e)
      go false e = decides_block (write_on l) k

-- ---- Exact but for t, also with the hint recorded

exact_all : (x : Tables) → Kept x → Exact x → (a b : ℕ) → Edge x.waits.wait_for_graph.edges a b ↔ Truly x a b
unfolding waits_for among
exact_all x k h a b = go (dec_lt a 32)
  where
    w : Waits
    w = x.waits

    small : True x.rwlock_readers w a b → b < 32
    small e = below (intent_of w a) (among_in b (blocking x.rwlock_readers w (intent_of w a)) e)
      where
        below : (i : Option WaitIntent) → In b (blocking x.rwlock_readers w i) → b < 32
        below None m = absurd m
        below (Some i) m = owners_lt x.rwlock_readers w i b m

    go : Dec (a < 32) → Edge w.wait_for_graph.edges a b ↔ Truly x a b
    go (yes i) = (λ e. (h a b i (bit_below 32 (row w.wait_for_graph.edges a) b (k.waits.graph.sized.narrow a) e)).0 e, λ e. (h a b i (small e)).1 e)
    go (no i) =
        let e₁ : row w.wait_for_graph.edges a ≡ 0 = get_or-eq_default w.wait_for_graph.edges 0 {n = a} (rw k.waits.graph.sized.long (omega arith)) in
        let e₂ : get_or w.thread_waits_for a None ≡ None = get_or-eq_default w.thread_waits_for None {n = a} (rw k.waits.shaped.threads (omega arith)) in (
          λ e. absurd (omega (arith, bit_zero b, sym (ap (λ (m : ℕ). bit m b) e₁) ∙ e)),
          λ e. absurd (false≢true (sym (ap (λ (s : Option WaitIntent). among b (blocking x.rwlock_readers w s)) e₂) ∙ e)),
        )

-- If only t awaits the lock l, a change of its owner or writer changes the waits of t alone.
but_hint : (c : List ℕ) (v w : Waits) (t l : ℕ) → (v.thread_waits_for ≡ w.thread_waits_for)
    → ((i : WaitIntent) → (i.lock_id ≡ l → ⊥) → owners c v i ≡ owners c w i) → ((a : ℕ) → names (intent_of w a) l ≡ true → a ≡ t)
    → (a b : ℕ) → (a ≡ t → ⊥) → waits_for c v a b ≡ waits_for c w a b
unfolding waits_for
but_hint c v w t l s o n a b d = ap (λ (z : List (Option WaitIntent)). among b (blocking c v (get_or z a None))) s ∙ ap (among b) (go (intent_of w a) refl)
  where
    go : (i : Option WaitIntent) → intent_of w a ≡ i → blocking c v i ≡ blocking c w i
    go None e = refl
    go (Some i) e = o i (λ q. d (n a (ap (λ z. names z l) e ∙ eq-eqb _ _ q)))

module _ (x : Tables) (k : Kept x) (exact : Exact x) (t l : ℕ) where
  exact_plain : ExactBut x.rwlock_readers x.waits t
  exact_plain a b d = exact_all x k exact a b

  -- Waits v with the same graph, and with the same true waits of all threads but t, are exact but for t too.
  exact_hint : (v : Waits) → (v.wait_for_graph ≡ x.waits.wait_for_graph)
      → ((a b : ℕ) → (a ≡ t → ⊥) → waits_for x.rwlock_readers v a b ≡ waits_for x.rwlock_readers x.waits a b) → ExactBut x.rwlock_readers v t
  exact_hint v g s a b d =
      let e = exact_all x k exact a b in
      (λ z. s a b d ∙ e.0 (subst (λ (h : WaitForGraph). Edge h.edges a b) g z), λ z. subst (λ (h : WaitForGraph). Edge h.edges a b) (sym g) (e.1 (sym (s a b d) ∙ z)))

  exact_own : (o : ℕ) → (o ≡ owner_of x.waits l) ⊎ Alone x t l → ExactBut x.rwlock_readers (own x.waits o l) t
  exact_own o (inl e) =
      let s : set x.waits.mutex_owners l o ≡ x.waits.mutex_owners = ap (set x.waits.mutex_owners l) e ∙ set-get_or x.waits.mutex_owners l 0 in
      exact_hint (own x.waits o l) refl (λ a b d. waits_same x.rwlock_readers (own x.waits o l) x.waits refl s refl a b)
  exact_own o (inr n) =
      exact_hint (own x.waits o l) refl
      (but_hint x.rwlock_readers (own x.waits o l) x.waits t l refl
      (λ i d. owners_same x.rwlock_readers (own x.waits o l) x.waits i (get_or-set_other x.waits.mutex_owners l i.lock_id o 0 d) refl) n)

  exact_write : (o : ℕ) → (o ≡ writer_of x.waits l) ⊎ Alone x t l → ExactBut x.rwlock_readers (write x.waits o l) t
  exact_write o (inl e) =
      let s : set x.waits.rwlock_writer l o ≡ x.waits.rwlock_writer = ap (set x.waits.rwlock_writer l) e ∙ set-get_or x.waits.rwlock_writer l 0 in
      exact_hint (write x.waits o l) refl (λ a b d. waits_same x.rwlock_readers (write x.waits o l) x.waits refl refl s a b)
  exact_write o (inr n) =
      exact_hint (write x.waits o l) refl
      (but_hint x.rwlock_readers (write x.waits o l) x.waits t l refl
      (λ i d. owners_same x.rwlock_readers (write x.waits o l) x.waits i refl (get_or-set_other x.waits.rwlock_writer l i.lock_id o 0 d)) n)

-- ---- Demand 3, second half

module _ (x : Tables) (room t l : ℕ) (k : Kept x) (exact : Exact x) where
  -- In waits v a blocked mutex attempt is reported as the demand asks.
  mutex_decided : (v : Waits) → t < 32 → l < 64 → Fine v → ExactBut x.rwlock_readers v t
      → (0 < length (acquire_slow x v t l).reports)
      ↔ (Cycle (Truly (acquire_slow x v t l).tables) × ((p : List ℕ) × ((register x.rwlock_readers v t (mutex_on l)).found ≡ Some p) × Shared x.rwlock_readers (acquire_slow x v t l).tables.waits p → ⊥))
  unfolding acquire_slow
  mutex_decided v h i f e =
      let m = decides_mutex x.rwlock_readers v t h f e l i in
      (λ r. ((m.0 r).0, λ z. (m.0 r).1 z.0 z.1 z.2), λ z. m.1 (z.0, λ p q y. z.1 (p, q, y)))

  half_mutex : (o : Outcome) → Inside (numbers_of (MutexAttempt t l o)) room → Apt x (owner_of x.waits l) t l o
      → (0 < length (apply (MutexAttempt t l o) x).reports) ↔ (Cycle (Truly (apply (MutexAttempt t l o) x).tables) × (Spared x t l o (apply (MutexAttempt t l o) x).tables → ⊥))
  unfolding acquire_slow
  half_mutex Took n a = absurd a
  half_mutex Blocked n a = mutex_decided x.waits n.thread n.lock k.waits (exact_plain x k exact t l)
  half_mutex (Hinted o) n a = mutex_decided (own x.waits o l) n.thread n.lock (fine_own x.waits l o (omega (arith, n.hint)) k.waits) (exact_own x k exact t l o a)

  half_read : (o : Outcome) → Inside (numbers_of (RwReadAttempt t l o)) room → Apt x (writer_of x.waits l) t l o
      → (0 < length (apply (RwReadAttempt t l o) x).reports) ↔ Cycle (Truly (apply (RwReadAttempt t l o) x).tables)
  unfolding acquire_read
  half_read Took n a = absurd a
  half_read Blocked n a = decides_block x.rwlock_readers x.waits t n.thread k.waits (exact_plain x k exact t l) (read_on l) n.lock
  half_read (Hinted o) n a =
      decides_block x.rwlock_readers (write x.waits o l) t n.thread (fine_write x.waits l o (omega (arith, n.hint)) k.waits) (exact_write x k exact t l o a) (read_on l) n.lock

  half_write : (o : Outcome) → Inside (numbers_of (RwWriteAttempt t l o)) room → Apt x (writer_of x.waits l) t l o
      → (0 < length (apply (RwWriteAttempt t l o) x).reports) ↔ Cycle (Truly (apply (RwWriteAttempt t l o) x).tables)
  unfolding acquire_write
  half_write Took n a = absurd a
  half_write Blocked n a =
      decides_write x.rwlock_readers x.waits t n.thread k.waits (exact_plain x k exact t l) l n.lock
      (λ e. acyclic_within (Truly x) (Edge x.waits.wait_for_graph.edges) (λ a b z. (exact_all x k exact a b).1 z) k.waits.graph.acyclic)
  half_write (Hinted o) n a =
      decides_write x.rwlock_readers (write x.waits o l) t n.thread (fine_write x.waits l o (omega (arith, n.hint)) k.waits) (exact_write x k exact t l o a) l n.lock
      (λ e. absurd (taken (nobody_reads x.rwlock_readers l) e))
    where
      taken : (b : Bool) → cond b (eqb (writer_of (write x.waits o l) l) 32) false ≡ true → ⊥
      taken true e =
          let q : writer_of (write x.waits o l) l ≡ o = get_or-set_same x.waits.rwlock_writer l o 0 (rw k.waits.shaped.written n.lock) in
          omega (arith, n.hint, q, eqb-true (writer_of (write x.waits o l) l) 32 e)
      taken false e = false≢true e

pub second_half : SecondHalf
second_half =
    record {
      mutex = λ x room t l o r exact h a. rw (effect_served x room (MutexAttempt t l o) h) (half_mutex x room t l (reached_kept x r) exact o (accepted x room (MutexAttempt t l o) h).inside a);
      read = λ x room t l o r exact h a. rw (effect_served x room (RwReadAttempt t l o) h) (half_read x room t l (reached_kept x r) exact o (accepted x room (RwReadAttempt t l o) h).inside a);
      write = λ x room t l o r exact h a. rw (effect_served x room (RwWriteAttempt t l o) h) (half_write x room t l (reached_kept x r) exact o (accepted x room (RwWriteAttempt t l o) h).inside a);
    }
