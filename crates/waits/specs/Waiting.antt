-- CLEAR INTENT, REGISTER and REFRESH.
use mathlib.Core.List.{List, foldl}
use Rattle.std.specs.Prelude.{ℕ, set, Option, None, Some}
use Rattle.sets.specs.Limits.{THREADS}
use Rattle.sets.specs.Sets.{with, without, upward}
use Rattle.graph.specs.Graph.{Adding, adding, clear_wait_edges, add_owners, first}
use Rattle.waits.specs.Tables.{intent_of, waiters_of, with_graph, with_intents}
use Rattle.waits.specs.Owners.{owners}
use Rattle.waits.specs.declared.tables.Waits.{Waits}
use Rattle.waits.specs.declared.intent.WaitIntent.{WaitIntent}

-- The tables after registering or refreshing, and the first path found.
pub record Linking : Type 0 where
  pub waits : Waits
  pub found : Option (List ℕ)

-- CLEAR INTENT
-- Removes t's intent and takes t out of the waiters of the lock it named. Nothing changes if there is no intent.
abbrev pub unwaited : Waits → ℕ → Option WaitIntent → Waits
unwaited w t None = w
unwaited w t (Some i) =
    with_intents w (set w.thread_waits_for t None) (set w.lock_waiters i.lock_id (without (waiters_of w i.lock_id) t))

-- Removes t's intent as `unwaited` does, and drops every edge from t. The edges go even if t has no intent.
unfoldable pub clear : Waits → ℕ → Waits
clear w t = let u = unwaited w t (intent_of w t) in with_graph u (clear_wait_edges u.wait_for_graph t)

-- REGISTER
-- Clears t's intent, then gives t the intent i and adds t to the waiters of its lock. Adds no edges.
unfoldable pub set_intent : Waits → ℕ → WaitIntent → Waits
set_intent w t i =
    let u = clear w t in
    with_intents u (set u.thread_waits_for t (Some i)) (set u.lock_waiters i.lock_id (with (waiters_of u i.lock_id) t))

-- Returns the tables with the graph that adding edges gave, and its path.
abbrev pub linking : Waits → Adding → Linking
linking w k = record { waits = with_graph w k.graph; found = k.found }

-- Registers t: sets its intent, then adds an edge to each owner that blocks it, in order, and keeps the first path.
unfoldable pub register : List ℕ → Waits → ℕ → WaitIntent → Linking
register counts w t i = let u = set_intent w t i in linking u (add_owners t u.wait_for_graph (owners counts u i))

-- REFRESH
-- Returns the later graph with the first path of the two.
abbrev pub later : Adding → Adding → Adding
later k n = adding n.graph (first k.found n.found)

-- Drops the edges of the waiter t and adds an edge to every owner that blocks its intent. Nothing changes without one.
abbrev pub renew_for : List ℕ → Waits → Adding → ℕ → Option WaitIntent → Adding
renew_for counts w k t None = k
renew_for counts w k t (Some i) = later k (add_owners t (clear_wait_edges k.graph t) (owners counts w i))

-- Does this for the intent that the tables have for t.
unfoldable pub renew : List ℕ → Waits → Adding → ℕ → Adding
renew counts w k t = renew_for counts w k t (intent_of w t)

-- Returns the graph before the first waiter, with no path yet.
abbrev pub renew_start : Waits → Adding
renew_start w = adding w.wait_for_graph None

-- Renews the edges of each of the threads, in order, and keeps the first path.
unfoldable pub renew_all : List ℕ → Waits → List ℕ → Adding
renew_all counts w ts = foldl (renew counts w) (renew_start w) ts

-- Renews the edges of the threads that are l's waiters at the start, upward.
abbrev pub refreshed : List ℕ → Waits → ℕ → Adding
refreshed counts w l = renew_all counts w (upward THREADS (waiters_of w l))

-- Refreshes l's waiters: returns the tables with the graph after it, and the first path.
unfoldable pub refresh : List ℕ → Waits → ℕ → Linking
refresh counts w l = linking w (refreshed counts w l)

-- Refreshes the waiters of one more lock, and keeps a path found before.
unfoldable pub refresh_next : List ℕ → Linking → ℕ → Linking
refresh_next counts s l = let r = refresh counts s.waits l in record { waits = r.waits; found = first s.found r.found }

-- Refreshes the waiters of each of the locks, in order, and keeps the first path of all.
unfoldable pub refresh_locks : List ℕ → Waits → List ℕ → Linking
refresh_locks counts w ls = foldl (refresh_next counts) (record { waits = w; found = None }) ls
