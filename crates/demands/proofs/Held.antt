-- What the rules of waiting keep of any waits that the types can hold and that are in range, reached or not.
use Rattle.std.specs.Prelude.{Option, None, Some}
use mathlib.Core.Path.{◌≡◌, refl}
use mathlib.Core.Logic.{inl, inr}
use mathlib.Core.List.{List, [], ◌∷◌, foldl}
use mathlib.Core.Bool.{Bool, true, false, cond}
use Prim.Native.Nat.{ℕ, ◌<◌, ◌≤◌, ◌^◌}
use native.Mathlib.Omega.{arith}
use lib.Dec.{lit<}
use lib.ListN.{set, length, length-set}
use Rattle.sets.specs.Sets.{has, upward}
use Rattle.sets.specs.Lists.{In}
use Rattle.sets.proofs.Digits.{with_lt, without_le}
use Rattle.sets.proofs.Walk.{upward_lt}
use Rattle.sets.proofs.Tables.{set_all}
use Rattle.graph.specs.Search.{row}
use Rattle.graph.specs.Graph.{cut, Adding, remove_edge, remove_edges_to, clear_wait_edges, Sized}
use Rattle.graph.specs.declared.wait_for_graph.WaitForGraph.{WaitForGraph}
use Rattle.graph.proofs.Good.{sized_clear}
use Rattle.graph.proofs.Register.{register_sized}
use Rattle.waits.specs.Tables.{intent_of, waiters_of, holds_of, with_graph, with_intents, with_holds, own, write, hold, unhold, InRange}
use Rattle.waits.specs.Owners.{owners}
use Rattle.waits.specs.Waiting.{unwaited, clear, set_intent, register, renew_for, renew, renew_start, renew_all, refresh}
use Rattle.waits.specs.declared.tables.Waits.{Waits}
use Rattle.waits.specs.declared.intent.WaitIntent.{WaitIntent}
use Rattle.waits.proofs.Laws.{range_graph, range_own, range_write, range_unwaited, range_set, owners_lt}
use Rattle.detector.specs.RwLock.{loosen}
use Rattle.demands.specs.Invariants.{Shaped}
use Rattle.demands.proofs.Keeping.{Rules}

-- States that the waits have the sizes and the ranges that the rules of waiting keep.
pub record Held (w : Waits) : Type 0 where
  pub graph : Sized w.wait_for_graph
  pub range : InRange w
  pub shaped : Shaped w.thread_waits_for w.lock_waiters w.thread_holds w.mutex_owners w.rwlock_writer

-- ---- A change of one table

pub held_graph : (w : Waits) (g : WaitForGraph) → Sized g → Held w → Held (with_graph w g)
held_graph w g k f = record { graph = k; range = range_graph w g f.range; shaped = f.shaped }

pub held_own : (w : Waits) (l o : ℕ) → o ≤ 32 → Held w → Held (own w o l)
held_own w l o h f =
    let s = f.shaped in
    record {
      graph = f.graph;
      range = range_own w l o h f.range;
      shaped = record { threads = s.threads; locks = s.locks; few = s.few; holders = s.holders; held = s.held; owned = simp length-set s.owned; written = s.written };
    }

pub held_write : (w : Waits) (l o : ℕ) → o ≤ 32 → Held w → Held (write w o l)
held_write w l o h f =
    let s = f.shaped in
    record {
      graph = f.graph;
      range = range_write w l o h f.range;
      shaped = record { threads = s.threads; locks = s.locks; few = s.few; holders = s.holders; held = s.held; owned = s.owned; written = simp length-set s.written };
    }

held_holds : (w : Waits) (t m : ℕ) → m < 2 ^ 64 → Held w → Held (with_holds w (set w.thread_holds t m))
held_holds w t m h f =
    let s = f.shaped in
    record {
      graph = f.graph;
      range = record { locks = f.range.locks; owner = f.range.owner; writer = f.range.writer };
      shaped = record {
        threads = s.threads;
        locks = s.locks;
        few = s.few;
        holders = simp length-set s.holders;
        held = set_all (λ (x : ℕ). x < 2 ^ 64) w.thread_holds t m 0 h s.held;
        owned = s.owned;
        written = s.written;
      };
    }

pub held_hold : (w : Waits) (t l : ℕ) → l < 64 → Held w → Held (hold w t l)
held_hold w t l h f = held_holds w t _ (with_lt 64 _ l (f.shaped.held t) h) f

pub held_unhold : (w : Waits) (t l : ℕ) → Held w → Held (unhold w t l)
held_unhold w t l f = held_holds w t _ (omega (arith, without_le (holds_of w t) l, f.shaped.held t)) f

-- The intents s and the waiters v take the place of those of w.
pub held_intents : (w : Waits) (s : List (Option WaitIntent)) (v : List ℕ) → InRange (with_intents w s v) → length s ≡ 32 → length v ≡ 64 → ((l : ℕ) → row v l < 2 ^ 32) → Held w → Held (with_intents w s v)
held_intents w s v r a b c f =
    record {
      graph = f.graph;
      range = r;
      shaped = record { threads = a; locks = b; few = c; holders = f.shaped.holders; held = f.shaped.held; owned = f.shaped.owned; written = f.shaped.written };
    }

-- The waiters of a lock go.
pub held_emptied : (w : Waits) (l : ℕ) → Held w → Held (with_intents w w.thread_waits_for (set w.lock_waiters l 0))
held_emptied w l f =
    held_intents w _ _ (record { locks = f.range.locks; owner = f.range.owner; writer = f.range.writer }) f.shaped.threads (simp length-set f.shaped.locks)
    (set_all (λ (m : ℕ). m < 2 ^ 32) w.lock_waiters l 0 0 (lit< tt) f.shaped.few) f

-- ---- Clear, register, refresh

pub held_unwaited : (w : Waits) (t : ℕ) (a : Option WaitIntent) → Held w → Held (unwaited w t a)
held_unwaited w t None f = f
held_unwaited w t (Some i) f =
    held_intents w _ _ (range_unwaited w t (Some i) f.range) (simp length-set f.shaped.threads) (simp length-set f.shaped.locks)
    (set_all (λ (m : ℕ). m < 2 ^ 32) w.lock_waiters i.lock_id _ 0 (omega (arith, without_le (waiters_of w i.lock_id) t, f.shaped.few i.lock_id)) f.shaped.few) f

pub held_clear : (w : Waits) (t : ℕ) → Held w → Held (clear w t)
unfolding clear
held_clear w t f =
    let u = held_unwaited w t (intent_of w t) f in
    held_graph (unwaited w t (intent_of w t)) _ (sized_clear (unwaited w t (intent_of w t)).wait_for_graph t u.graph) u

pub held_set : (w : Waits) (t : ℕ) (i : WaitIntent) → t < 32 → i.lock_id < 64 → Held w → Held (set_intent w t i)
unfolding set_intent
held_set w t i h k f =
    let c = held_clear w t f in
    held_intents (clear w t) _ _ (range_set w t i k f.range) (simp length-set c.shaped.threads) (simp length-set c.shaped.locks)
    (set_all (λ (m : ℕ). m < 2 ^ 32) (clear w t).lock_waiters i.lock_id _ 0 (with_lt 32 _ t (c.shaped.few i.lock_id) h) c.shaped.few) c

pub held_register : (c : List ℕ) (w : Waits) (t : ℕ) (i : WaitIntent) → t < 32 → i.lock_id < 64 → Held w → Held (register c w t i).waits
unfolding register
held_register c w t i h k f =
    let u = held_set w t i h k f in
    held_graph (set_intent w t i) _ (register_sized t h (owners c (set_intent w t i) i) (owners_lt c (set_intent w t i) i) (set_intent w t i).wait_for_graph u.graph) u

sized_renew : (c : List ℕ) (w : Waits) (k : Adding) (t : ℕ) → t < 32 → Sized k.graph → Sized (renew c w k t).graph
unfolding renew
sized_renew c w k t h s = go (intent_of w t)
  where
    go : (a : Option WaitIntent) → Sized (renew_for c w k t a).graph
    go None = s
    go (Some i) = register_sized t h (owners c w i) (owners_lt c w i) (clear_wait_edges k.graph t) (sized_clear k.graph t s)

sized_all : (c : List ℕ) (w : Waits) (ts : List ℕ) (k : Adding) → ((t : ℕ) → In t ts → t < 32) → Sized k.graph → Sized (foldl (renew c w) k ts).graph
sized_all c w [] k h s = s
sized_all c w (t ∷ ts) k h s = sized_all c w ts (renew c w k t) (λ u i. h u (inr i)) (sized_renew c w k t (h t (inl refl)) s)

pub held_refresh : (c : List ℕ) (w : Waits) (l : ℕ) → Held w → Held (refresh c w l).waits
unfolding refresh renew_all
held_refresh c w l f = held_graph w _ (sized_all c w (upward 32 (waiters_of w l)) (renew_start w) (upward_lt 32 (waiters_of w l)) f.graph) f

-- ---- Dropping edges

sized_remove : (t : ℕ) (ws : List ℕ) (g : WaitForGraph) → Sized g → Sized (foldl (λ h w. remove_edge h w t) g ws)
unfolding remove_edge
sized_remove t [] g s = s
sized_remove t (w ∷ ws) g s = sized_remove t ws (remove_edge g w t) (go (has (row g.edges w) t))
  where
    narrower : (rows : List ℕ) (i j : ℕ) → ((k : ℕ) → row rows k < 2 ^ 32) → (k : ℕ) → row (cut rows i j) k < 2 ^ 32
    narrower rows i j h = set_all (λ (m : ℕ). m < 2 ^ 32) rows i _ 0 (omega (arith, without_le (row rows i) j, h i)) h

    go : (b : Bool) → Sized (cond b (record { edges = cut g.edges w t; incoming_edges = cut g.incoming_edges t w }) g)
    go true =
        record {
          long = simp length-set s.long;
          long_in = simp length-set s.long_in;
          narrow = narrower g.edges w t s.narrow;
          narrow_in = narrower g.incoming_edges t w s.narrow_in;
        }
    go false = s

pub held_loosen : (w : Waits) (t l : ℕ) → Held w → Held (loosen w t l)
unfolding loosen remove_edges_to
held_loosen w t l f = held_graph w _ (sized_remove t (upward 32 (waiters_of w l)) w.wait_for_graph f.graph) f

-- ---- Every rule of waiting keeps it

pub held_rules : Rules Held
held_rules =
    record {
      owned = held_own;
      wrote = held_write;
      holding = held_hold;
      unholding = held_unhold;
      cleared = λ w t h f. held_clear w t f;
      registered = held_register;
      refreshed = held_refresh;
      loosened = λ w t l h f. held_loosen w t l f;
      emptied = λ w l h f. held_emptied w l f;
    }
