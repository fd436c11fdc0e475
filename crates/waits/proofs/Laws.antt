-- What the rules keep in range, and which threads the owners are.
use mathlib.Core.Path.{◌≡◌, refl, sym, ap, ◌∙◌, subst}
use mathlib.Core.Logic.{⊎_elim}
use mathlib.Core.List.{List, [], ◌∷◌, foldl}
use mathlib.Core.Bool.{Bool, true, false, cond}
use Prim.Native.Nat.{ℕ, zero, suc, ◌<◌, ◌≤◌}
use lib.Dec.{lit<, lit≤}
use lib.ListN.{get_or, set, replicate}
use lib.Seq.{set-get_or}
use Rattle.sets.specs.Sets.{upward}
use Rattle.sets.specs.Lists.{In, among}
use Rattle.sets.proofs.Lists.{in_either}
use Rattle.sets.proofs.Walk.{upward_zero}
use Rattle.sets.proofs.Below.{those_in}
use Rattle.sets.proofs.Tables.{set_all}
use Rattle.graph.specs.Search.{row}
use Rattle.graph.specs.Graph.{one, cut_all, clear_wait_edges, Adding}
use Rattle.graph.specs.declared.wait_for_graph.WaitForGraph.{WaitForGraph}
use Rattle.graph.proofs.Fits.{Fits, fits_none, fits_first, fits_owners, one_lt}
use Rattle.std.specs.Prelude.{Option, None, Some}
use Rattle.waits.specs.Tables.{intent_of, lock_of, waiters_of, writer_of, owner_of, with_graph, with_intents, own, write, empty, InRange}
use Rattle.waits.specs.Counts.{readers, reads}
use Rattle.waits.specs.Owners.{then_writer, owners_for, owners}
use Rattle.waits.specs.Waiting.{Linking, unwaited, clear, set_intent, register, renew_for, renew, renew_start, renew_all, refreshed, refresh, refresh_next, refresh_locks}
use Rattle.waits.specs.declared.tables.Waits.{Waits}
use Rattle.waits.specs.declared.intent.WaitIntent.{WaitIntent}
use Rattle.waits.specs.declared.intent.WaitMode.{WaitMode}
use Rattle.waits.specs.declared.intent.WaitMode.TheVariants.{Mutex, RwRead, RwWrite}

-- ---- The tables stay in range

-- In tables that are in range, every intent names a lock below 64.
pub lock_of_lem : (w : Waits) (t : ℕ) (i : WaitIntent) → InRange w → intent_of w t ≡ Some i → i.lock_id < 64
lock_of_lem w t i s e = rw e at (s.locks t)

-- Storing an intent on a lock below 64 keeps the tables in range.
range_slot : (w : Waits) (t : ℕ) (v : Option WaitIntent) (x : List ℕ) → lock_of v < 64 → InRange w → InRange (with_intents w (set w.thread_waits_for t v) x)
range_slot w t v x h s =
    record {
      locks = set_all (λ (z : Option WaitIntent). lock_of z < 64) w.thread_waits_for t v None h s.locks;
      owner = s.owner;
      writer = s.writer;
    }

-- Each rule keeps the tables in range.
pub range_graph : (w : Waits) (g : WaitForGraph) → InRange w → InRange (with_graph w g)
range_graph w g s = record { locks = s.locks; owner = s.owner; writer = s.writer }

pub range_own : (w : Waits) (l o : ℕ) → o ≤ 32 → InRange w → InRange (own w o l)
range_own w l o h s =
    record { locks = s.locks; owner = set_all (λ (x : ℕ). x ≤ 32) w.mutex_owners l o 0 h s.owner; writer = s.writer }

pub range_write : (w : Waits) (l o : ℕ) → o ≤ 32 → InRange w → InRange (write w o l)
range_write w l o h s =
    record { locks = s.locks; owner = s.owner; writer = set_all (λ (x : ℕ). x ≤ 32) w.rwlock_writer l o 0 h s.writer }

pub range_unwaited : (w : Waits) (t : ℕ) (a : Option WaitIntent) → InRange w → InRange (unwaited w t a)
range_unwaited w t None s = s
range_unwaited w t (Some i) s = range_slot w t None _ (lit< tt) s

pub range_clear : (w : Waits) (t : ℕ) → InRange w → InRange (clear w t)
unfolding clear
range_clear w t s = range_graph (unwaited w t (intent_of w t)) _ (range_unwaited w t (intent_of w t) s)

pub range_set : (w : Waits) (t : ℕ) (i : WaitIntent) → i.lock_id < 64 → InRange w → InRange (set_intent w t i)
unfolding set_intent
range_set w t i h s = range_slot (clear w t) t (Some i) _ h (range_clear w t s)

pub range_register : (c : List ℕ) (w : Waits) (t : ℕ) (i : WaitIntent) → i.lock_id < 64 → InRange w → InRange (register c w t i).waits
unfolding register
range_register c w t i h s = range_graph (set_intent w t i) _ (range_set w t i h s)

pub range_refresh : (c : List ℕ) (w : Waits) (l : ℕ) → InRange w → InRange (refresh c w l).waits
unfolding refresh
range_refresh c w l s = range_graph w _ s

pub range_locks : (c : List ℕ) (ls : List ℕ) (s : Linking) → InRange s.waits → InRange (foldl (refresh_next c) s ls).waits
unfolding refresh_next
range_locks c [] s h = h
range_locks c (l ∷ ls) s h = range_locks c ls (refresh_next c s l) (range_refresh c s.waits l h)

-- The empty tables are in range.
pub range_empty : InRange empty
range_empty =
    record {
      locks = λ t. subst (λ (z : Option WaitIntent). lock_of z < 64) (sym (slot 32 t)) (lit< tt);
      owner = none 64;
      writer = none 64;
    }
  where
    slot : (n t : ℕ) → get_or {A = Option WaitIntent} (replicate n None) t None ≡ None
    slot zero t = refl
    slot (suc n) zero = refl
    slot (suc n) (suc t) = slot n t

    none : (n l : ℕ) → get_or {A = ℕ} (replicate n 32) l 0 ≤ 32
    none zero l = lit≤ tt
    none (suc n) zero = lit≤ tt
    none (suc n) (suc l) = none n l

-- ---- Owners are below 32

pub readers_lt : (c : List ℕ) (l x : ℕ) → In x (readers c l) → x < 32
unfolding readers
readers_lt c l x m = (those_in (λ t. reads c t l) 32 x m).0

then_lt : (c : List ℕ) (l o x : ℕ) → In x (then_writer (readers c l) o) → x < 32
then_lt c l o x m = ⊎_elim (readers_lt c l x) (λ i. go (among o (readers c l)) i) (in_either x (readers c l) _ m)
  where
    go : (b : Bool) → In x (cond b [] (one o)) → x < 32
    go true i = absurd i
    go false i = one_lt o x i

pub owners_lt : (c : List ℕ) (w : Waits) (i : WaitIntent) (x : ℕ) → In x (owners c w i) → x < 32
owners_lt c w i = go i.mode
  where
    go : (m : WaitMode) (x : ℕ) → In x (owners_for c w i.lock_id m) → x < 32
    go Mutex x = one_lt (owner_of w i.lock_id) x
    go RwRead x = one_lt (writer_of w i.lock_id) x
    go RwWrite x = then_lt c i.lock_id (writer_of w i.lock_id) x

-- ---- A path that is found has at most 32 threads, each below 32

pub fits_register : (c : List ℕ) (w : Waits) (t : ℕ) (i : WaitIntent) → Fits (register c w t i).found
unfolding register
fits_register c w t i = fits_owners t _ _ (owners_lt c (set_intent w t i) i)

fits_renew : (c : List ℕ) (w : Waits) (k : Adding) (t : ℕ) → Fits k.found → Fits (renew c w k t).found
unfolding renew
fits_renew c w k t f = go (intent_of w t)
  where
    go : (a : Option WaitIntent) → Fits (renew_for c w k t a).found
    go None = f
    go (Some i) = fits_first k.found _ f (fits_owners t _ _ (owners_lt c w i))

fits_all : (c : List ℕ) (w : Waits) (ts : List ℕ) (k : Adding) → Fits k.found → Fits (foldl (renew c w) k ts).found
fits_all c w [] k f = f
fits_all c w (t ∷ ts) k f = fits_all c w ts (renew c w k t) (fits_renew c w k t f)

pub fits_refreshed : (c : List ℕ) (w : Waits) (l : ℕ) → Fits (refreshed c w l).found
unfolding renew_all
fits_refreshed c w l = fits_all c w (upward 32 (waiters_of w l)) (renew_start w) fits_none

pub fits_refresh : (c : List ℕ) (w : Waits) (l : ℕ) → Fits (refresh c w l).found
unfolding refresh
fits_refresh c w l = fits_refreshed c w l

fits_next : (c : List ℕ) (ls : List ℕ) (s : Linking) → Fits s.found → Fits (foldl (refresh_next c) s ls).found
unfolding refresh_next
fits_next c [] s f = f
fits_next c (l ∷ ls) s f = fits_next c ls (refresh_next c s l) (fits_first s.found _ f (fits_refresh c s.waits l))

pub fits_locks : (c : List ℕ) (w : Waits) (ls : List ℕ) → Fits (refresh_locks c w ls).found
unfolding refresh_locks
fits_locks c w ls = fits_next c ls _ fits_none

-- ---- If there are no edges from t, clearing them changes nothing

pub clear_idle : (g : WaitForGraph) (t : ℕ) → row g.edges t ≡ 0 → clear_wait_edges g t ≡ g
unfolding clear_wait_edges cut_all
clear_idle g t e =
    let s : set g.edges t 0 ≡ g.edges = ap (set g.edges t) (sym e) ∙ set-get_or g.edges t 0 in
    rw (e, upward_zero 32 0, s)
