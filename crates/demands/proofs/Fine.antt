-- What the rules of waiting keep of the waits in reached states.
use mathlib.Core.Path.{◌≡◌, refl, sym, ap, ◌∙◌}
use mathlib.Core.Logic.{inl, inr}
use mathlib.Core.List.{List, [], ◌∷◌, foldl}
use mathlib.Core.Bool.{true, false≢true}
use Rattle.std.specs.Prelude.{Option, None, Some}
use Prim.Native.Nat.{ℕ, zero, suc, ◌<◌, ◌≤◌}
use native.Mathlib.Omega.{arith}
use native.Mathlib.Decide.{ℕ_discrete}
use lib.Dec.{lit<}
use lib.ListN.{get_or, set, replicate}
use lib.Seq.{get_or-set_same, get_or-set_other}
use borrow.Author.Tests.{eq-eqb, eqb-true}
use Rattle.sets.specs.Sets.{bit, has, upward}
use Rattle.sets.specs.Lists.{In, Distinct}
use Rattle.sets.proofs.Digits.{bit_zero, has_bit, bit_has}
use Rattle.sets.proofs.Walk.{upward_lt}
use Rattle.graph.specs.Search.{row}
use Rattle.graph.specs.Graph.{put, cut, add_owners, clear_wait_edges, Adding, first, Good}
use Rattle.graph.specs.declared.wait_for_graph.WaitForGraph.{WaitForGraph}
use Rattle.graph.proofs.Good.{At, at_put, at_cut, emptied_row, good_remove_edges, good_clear, good_empty}
use Rattle.graph.proofs.Register.{Owned, register_good, register_ring}
use Rattle.waits.specs.Tables.{intent_of, waiters_of, with_graph, with_intents, own, write, hold, unhold, empty}
use Rattle.waits.specs.Owners.{owners}
use Rattle.waits.specs.Waiting.{Linking, unwaited, clear, set_intent, register, renew_for, renew, renew_start, renew_all, refresh, refresh_next, refresh_locks}
use Rattle.waits.specs.Validate.{names}
use Rattle.waits.specs.declared.tables.Waits.{Waits}
use Rattle.waits.specs.declared.intent.WaitIntent.{WaitIntent}
use Rattle.waits.proofs.Laws.{lock_of_lem, range_empty, owners_lt}
use Rattle.detector.specs.RwLock.{loosen}
use Rattle.demands.specs.Invariants.{Fine}
use Rattle.demands.proofs.Keeping.{Rules}
use Rattle.demands.proofs.Held.{Held, held_graph, held_own, held_write, held_hold, held_unhold, held_emptied, held_unwaited, held_set}

-- ---- A change of one table

-- Fine waits are held ones. For the converse it is left to show that the graph is good and that waiters have intents.
module _ {w : Waits} where
  pub held : Fine w → Held w
  held f = record { graph = f.graph.sized; range = f.range; shaped = f.shaped }

  fine_of : Held w → Good w.wait_for_graph → ((t l : ℕ) → has (waiters_of w l) t ≡ true → names (intent_of w t) l ≡ true) → Fine w
  fine_of h g n = record { graph = g; named = n; range = h.range; shaped = h.shaped }

pub fine_graph : (w : Waits) (g : WaitForGraph) → Good g → Fine w → Fine (with_graph w g)
fine_graph w g k f = fine_of (held_graph w g k.sized (held f)) k f.named

pub fine_own : (w : Waits) (l o : ℕ) → o ≤ 32 → Fine w → Fine (own w o l)
fine_own w l o h f = fine_of (held_own w l o h (held f)) f.graph f.named

pub fine_write : (w : Waits) (l o : ℕ) → o ≤ 32 → Fine w → Fine (write w o l)
fine_write w l o h f = fine_of (held_write w l o h (held f)) f.graph f.named

pub fine_hold : (w : Waits) (t l : ℕ) → l < 64 → Fine w → Fine (hold w t l)
fine_hold w t l h f = fine_of (held_hold w t l h (held f)) f.graph f.named

pub fine_unhold : (w : Waits) (t l : ℕ) → Fine w → Fine (unhold w t l)
fine_unhold w t l f = fine_of (held_unhold w t l (held f)) f.graph f.named

-- The waiters of a lock go.
pub fine_emptied : (w : Waits) (l : ℕ) → l < 64 → Fine w → Fine (with_intents w w.thread_waits_for (set w.lock_waiters l 0))
fine_emptied w l h f =
    fine_of (held_emptied w l (held f)) f.graph
    (λ t k b. f.named t k (bit_has _ _ ((emptied_row w.lock_waiters l (rw f.shaped.locks h) k t).0 (has_bit _ _ b)).1))

-- ---- Clear

module _ (w : Waits) (t : ℕ) (i : WaitIntent) (e : intent_of w t ≡ Some i) (f : Fine w) where
  unwaited_named : (l u : ℕ) → bit (row (cut w.lock_waiters i.lock_id t) l) u ≡ 1 → names (get_or (set w.thread_waits_for t None) u None) l ≡ true
  unwaited_named l u h = go (ℕ_discrete u t) (ℕ_discrete l i.lock_id)
    where
      a : At w.lock_waiters (cut w.lock_waiters i.lock_id t) i.lock_id t 0
      a = at_cut w.lock_waiters i.lock_id t (rw f.shaped.locks (lock_of_lem w t i f.range e))

      before : ((l ≡ i.lock_id) × (u ≡ t) → ⊥) → names (intent_of w u) l ≡ true
      before n = f.named u l (bit_has _ _ (sym (a.else l u n) ∙ h))

      go : Dec (u ≡ t) → Dec (l ≡ i.lock_id) → names (get_or (set w.thread_waits_for t None) u None) l ≡ true
      go (yes p) (yes q) = absurd (omega (arith, a.there, rw (p, q) at h))
      go (yes p) (no q) =
          let z : names (Some i) l ≡ true = ap (λ x. names x l) (sym e) ∙ ap (λ x. names (intent_of w x) l) (sym p) ∙ before (λ k. q k.0) in
          absurd (q (sym (eqb-true i.lock_id l z)))
      go (no p) q = rw (get_or-set_other w.thread_waits_for t u None None p) (before (λ k. p k.1))

fine_unwaited : (w : Waits) (t : ℕ) (a : Option WaitIntent) → intent_of w t ≡ a → Fine w → Fine (unwaited w t a)
fine_unwaited w t None e f = f
fine_unwaited w t (Some i) e f = fine_of (held_unwaited w t (Some i) (held f)) f.graph (λ u l h. unwaited_named w t i e f l u (has_bit _ _ h))

pub unwaited_graph : (w : Waits) (t : ℕ) (a : Option WaitIntent) → (unwaited w t a).wait_for_graph ≡ w.wait_for_graph
unwaited_graph w t None = refl
unwaited_graph w t (Some i) = refl

pub fine_clear : (w : Waits) (t : ℕ) → t < 32 → Fine w → Fine (clear w t)
unfolding clear
fine_clear w t h f =
    let u = fine_unwaited w t (intent_of w t) refl f in
    fine_graph (unwaited w t (intent_of w t)) _ (good_clear (unwaited w t (intent_of w t)).wait_for_graph t h u.graph) u

-- A thread that is cleared has no intent.
pub cleared_none : (w : Waits) (t : ℕ) → t < 32 → Fine w → intent_of (clear w t) t ≡ None
unfolding clear
cleared_none w t h f = go (intent_of w t) refl
  where
    go : (a : Option WaitIntent) → intent_of w t ≡ a → intent_of (unwaited w t a) t ≡ None
    go None e = e
    go (Some i) e = (get_or-set_same w.thread_waits_for t None None (rw f.shaped.threads h))

-- ---- Register

pub fine_set : (w : Waits) (t : ℕ) (i : WaitIntent) → t < 32 → i.lock_id < 64 → Fine w → Fine (set_intent w t i)
unfolding set_intent
fine_set w t i h k f = fine_of (held_set w t i h k (held f)) c.graph (λ v l b. named_after l v (has_bit _ _ b))
  where
    c : Fine (clear w t)
    c = fine_clear w t h f

    named_after : (l v : ℕ) → bit (row (put (clear w t).lock_waiters i.lock_id t) l) v ≡ 1 → names (get_or (set (clear w t).thread_waits_for t (Some i)) v None) l ≡ true
    named_after l v b = go (ℕ_discrete v t) (ℕ_discrete l i.lock_id)
      where
        a : At (clear w t).lock_waiters (put (clear w t).lock_waiters i.lock_id t) i.lock_id t 1
        a = at_put (clear w t).lock_waiters i.lock_id t (rw c.shaped.locks k)

        before : ((l ≡ i.lock_id) × (v ≡ t) → ⊥) → names (intent_of (clear w t) v) l ≡ true
        before n = c.named v l (bit_has _ _ (sym (a.else l v n) ∙ b))

        go : Dec (v ≡ t) → Dec (l ≡ i.lock_id) → names (get_or (set (clear w t).thread_waits_for t (Some i)) v None) l ≡ true
        go (yes p) (yes q) =
            rw (p, get_or-set_same (clear w t).thread_waits_for t (Some i) None (rw c.shaped.threads h)) (eq-eqb _ _ (sym q))
        go (yes p) (no q) =
            absurd (false≢true (sym (ap (λ x. names x l) (cleared_none w t h f)) ∙ ap (λ x. names (intent_of (clear w t) x) l) (sym p) ∙ before (λ z. q z.0)))
        go (no p) q = rw (get_or-set_other (clear w t).thread_waits_for t v (Some i) None p) (before (λ z. p z.1))

-- States that no thread stands twice in a path that was found.
abbrev pub Neat : Option (List ℕ) → Type 0
Neat None = Unit
Neat (Some p) = Distinct p

neat_first : (p q : Option (List ℕ)) → Neat p → Neat q → Neat (first p q)
neat_first None q h j = j
neat_first (Some p) q h j = h

-- States what a rule hands on: fine waits, and a path in which no thread stands twice.
pub record Stepped (s : Linking) : Type 0 where
  pub fine : Fine s.waits
  pub neat : Neat s.found

-- States the same of a graph to which edges are added.
record Grows (k : Adding) : Type 0 where
  good : Good k.graph
  neat : Neat k.found

grows_owners : (t : ℕ) (os : List ℕ) (g : WaitForGraph) → t < 32 → Owned os → Good g → Grows (add_owners t g os)
grows_owners t os g h b k = record { good = register_good t h os b g k; neat = go (add_owners t g os).found refl }
  where
    go : (o : Option (List ℕ)) → (add_owners t g os).found ≡ o → Neat o
    go None e = tt
    go (Some p) e = (register_ring t h os b g k.sized p e).1

pub stepped_register : (c : List ℕ) (w : Waits) (t : ℕ) (i : WaitIntent) → t < 32 → i.lock_id < 64 → Fine w → Stepped (register c w t i)
unfolding register
stepped_register c w t i h k f =
    let u = fine_set w t i h k f in
    let r = grows_owners t (owners c (set_intent w t i) i) (set_intent w t i).wait_for_graph h (owners_lt c (set_intent w t i) i) u.graph in
    record { fine = fine_graph (set_intent w t i) _ r.good u; neat = r.neat }

-- ---- Refresh

grows_renew : (c : List ℕ) (w : Waits) (k : Adding) (t : ℕ) → t < 32 → Grows k → Grows (renew c w k t)
unfolding renew
grows_renew c w k t h g = go (intent_of w t)
  where
    go : (a : Option WaitIntent) → Grows (renew_for c w k t a)
    go None = g
    go (Some i) =
        let r = grows_owners t (owners c w i) (clear_wait_edges k.graph t) h (owners_lt c w i) (good_clear k.graph t h g.good) in
        record { good = r.good; neat = neat_first k.found _ g.neat r.neat }

grows_all : (c : List ℕ) (w : Waits) (ts : List ℕ) (k : Adding) → ((t : ℕ) → In t ts → t < 32) → Grows k → Grows (foldl (renew c w) k ts)
grows_all c w [] k h g = g
grows_all c w (t ∷ ts) k h g = grows_all c w ts (renew c w k t) (λ u i. h u (inr i)) (grows_renew c w k t (h t (inl refl)) g)

pub stepped_refresh : (c : List ℕ) (w : Waits) (l : ℕ) → Fine w → Stepped (refresh c w l)
unfolding refresh renew_all
stepped_refresh c w l f =
    let r = grows_all c w (upward 32 (waiters_of w l)) (renew_start w) (upward_lt 32 (waiters_of w l)) (record { good = f.graph; neat = tt }) in
    record { fine = fine_graph w _ r.good f; neat = r.neat }

stepped_next : (c : List ℕ) (ls : List ℕ) (s : Linking) → Stepped s → Stepped (foldl (refresh_next c) s ls)
unfolding refresh_next
stepped_next c [] s k = k
stepped_next c (l ∷ ls) s k =
    let r = stepped_refresh c s.waits l k.fine in
    stepped_next c ls (refresh_next c s l) (record { fine = r.fine; neat = neat_first s.found _ k.neat r.neat })

pub stepped_locks : (c : List ℕ) (w : Waits) (ls : List ℕ) → Fine w → Stepped (refresh_locks c w ls)
unfolding refresh_locks
stepped_locks c w ls f = stepped_next c ls (record { waits = w; found = None }) (record { fine = f; neat = tt })

-- ---- The empty tables

pub blank : (n i : ℕ) → get_or {A = ℕ} (replicate n 0) i 0 ≡ 0
blank zero i = refl
blank (suc n) zero = refl
blank (suc n) (suc i) = blank n i

pub fine_empty : Fine empty
fine_empty =
    record {
      graph = good_empty;
      named = λ t l h. absurd (omega (arith, has_bit _ _ h, ap (λ (m : ℕ). bit m t) (blank 64 l), bit_zero t));
      range = range_empty;
      shaped = record { threads = refl; locks = refl; few = λ l. rw (blank 64 l) (lit< tt); holders = refl; held = λ t. rw (blank 32 t) (lit< tt); owned = refl; written = refl };
    }

-- ---- Every rule of waiting keeps it

fine_loosen : (w : Waits) (t l : ℕ) → t < 32 → Fine w → Fine (loosen w t l)
unfolding loosen
fine_loosen w t l h f = fine_graph w _ (good_remove_edges t (upward 32 (waiters_of w l)) w.wait_for_graph h (upward_lt 32 (waiters_of w l)) f.graph) f

pub fine_rules : Rules Fine
fine_rules =
    record {
      owned = fine_own;
      wrote = fine_write;
      holding = fine_hold;
      unholding = fine_unhold;
      cleared = fine_clear;
      registered = λ c w t i h k f. (stepped_register c w t i h k f).fine;
      refreshed = λ c w l f. (stepped_refresh c w l f).fine;
      loosened = fine_loosen;
      emptied = fine_emptied;
    }
