-- The tables that every event may change.
use Rattle.std.specs.Prelude.{List, ℕ, ◌<◌, ◌≤◌, get_or, set, replicate, Option, None, Some}
use Rattle.sets.specs.Limits.{THREADS, LOCKS, NOBODY}
use Rattle.sets.specs.Sets.{with, without}
use Rattle.graph.specs.Search.{row}
use Rattle.graph.specs.Graph as graph
use Rattle.graph.specs.declared.wait_for_graph.WaitForGraph.{WaitForGraph}
use Rattle.waits.specs.declared.tables.Waits.{Waits}
use Rattle.waits.specs.declared.intent.WaitIntent.{WaitIntent}

-- READING
-- Returns the intent of thread t, or None.
abbrev pub intent_of : Waits → ℕ → Option WaitIntent
intent_of w t = get_or w.thread_waits_for t None

-- Returns the lock that an intent names, or 0 if there is none.
abbrev pub lock_of : Option WaitIntent → ℕ
lock_of None = 0
lock_of (Some i) = i.lock_id

-- Returns the waiters of lock l as a set.
abbrev pub waiters_of : Waits → ℕ → ℕ
waiters_of w l = row w.lock_waiters l

-- Returns the holds of thread t as a set.
abbrev pub holds_of : Waits → ℕ → ℕ
holds_of w t = row w.thread_holds t

-- Returns the owner of the mutex l, or nobody.
abbrev pub owner_of : Waits → ℕ → ℕ
owner_of w l = row w.mutex_owners l

-- Returns the writer of lock l, or nobody.
abbrev pub writer_of : Waits → ℕ → ℕ
writer_of w l = row w.rwlock_writer l

-- WRITING
-- Returns the tables with another graph.
abbrev pub with_graph : Waits → WaitForGraph → Waits
with_graph w g =
    record {
      wait_for_graph = g;
      thread_waits_for = w.thread_waits_for;
      lock_waiters = w.lock_waiters;
      thread_holds = w.thread_holds;
      mutex_owners = w.mutex_owners;
      rwlock_writer = w.rwlock_writer;
    }

-- Returns the tables with other intents and other waiters.
abbrev pub with_intents : Waits → List (Option WaitIntent) → List ℕ → Waits
with_intents w s l =
    record {
      wait_for_graph = w.wait_for_graph;
      thread_waits_for = s;
      lock_waiters = l;
      thread_holds = w.thread_holds;
      mutex_owners = w.mutex_owners;
      rwlock_writer = w.rwlock_writer;
    }

-- Returns the tables with other holds.
abbrev pub with_holds : Waits → List ℕ → Waits
with_holds w h =
    record {
      wait_for_graph = w.wait_for_graph;
      thread_waits_for = w.thread_waits_for;
      lock_waiters = w.lock_waiters;
      thread_holds = h;
      mutex_owners = w.mutex_owners;
      rwlock_writer = w.rwlock_writer;
    }

-- Returns the tables with o as the owner of the mutex l.
abbrev pub own : Waits → ℕ → ℕ → Waits
own w o l =
    record {
      wait_for_graph = w.wait_for_graph;
      thread_waits_for = w.thread_waits_for;
      lock_waiters = w.lock_waiters;
      thread_holds = w.thread_holds;
      mutex_owners = set w.mutex_owners l o;
      rwlock_writer = w.rwlock_writer;
    }

-- Returns the tables with o as the writer of l.
abbrev pub write : Waits → ℕ → ℕ → Waits
write w o l =
    record {
      wait_for_graph = w.wait_for_graph;
      thread_waits_for = w.thread_waits_for;
      lock_waiters = w.lock_waiters;
      thread_holds = w.thread_holds;
      mutex_owners = w.mutex_owners;
      rwlock_writer = set w.rwlock_writer l o;
    }

-- Returns the tables with l added to t's holds.
abbrev pub hold : Waits → ℕ → ℕ → Waits
hold w t l = with_holds w (set w.thread_holds t (with (holds_of w t) l))

-- Returns the tables with l taken out of t's holds.
abbrev pub unhold : Waits → ℕ → ℕ → Waits
unhold w t l = with_holds w (set w.thread_holds t (without (holds_of w t) l))

-- Returns the empty tables: no edges, no intents, no waiters, no holds, and nobody as owner or writer.
abbrev pub empty : Waits
empty =
    record {
      wait_for_graph = graph.empty;
      thread_waits_for = replicate THREADS None;
      lock_waiters = replicate LOCKS 0;
      thread_holds = replicate THREADS 0;
      mutex_owners = replicate LOCKS NOBODY;
      rwlock_writer = replicate LOCKS NOBODY;
    }

-- States what refusal 2 asks of these tables: every intent names a lock below 64, and every owner and writer is a
-- thread below 32 or nobody. The sets are kept in range by their types.
pub record InRange (w : Waits) : Type 0 where
  pub locks : (t : ℕ) → lock_of (intent_of w t) < LOCKS
  pub owner : (l : ℕ) → owner_of w l ≤ NOBODY
  pub writer : (l : ℕ) → writer_of w l ≤ NOBODY
