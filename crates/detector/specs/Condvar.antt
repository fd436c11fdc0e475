-- The events of a condition variable: cn, cd, cb, c1, ca, ce.
use mathlib.Core.List.{List, [], ◌∷◌, ◌++◌, foldl}
use Rattle.std.specs.Prelude.{Bool, false, cond, ℕ, eqb, ltb, get_or, set}
use Rattle.sets.specs.Limits.{THREADS}
use Rattle.sets.specs.Sets.{with, without}
use Rattle.sets.specs.Below.{each}
use Rattle.waits.specs.Tables.{owner_of}
use Rattle.waits.specs.Waiting.{clear}
use Rattle.waits.specs.Report.{Report, Judging, quiet}
use Rattle.waits.specs.Attempt.{block_mutex}
use Rattle.waits.specs.declared.tables.Waits.{Waits}
use Rattle.detector.specs.Tables.{Tables, Effect, no_cv_wait, blank_cv_wait, queue_of, with_queue, with_woken, silent}
use Rattle.detector.specs.declared.state.Pair.{Pair}
use Rattle.detector.specs.declared.state.CvWait.{CvWait}

-- cn: the condvar c is new. Empties its queue and changes nothing else, so the cv waits for c stay.
unfoldable pub create_condvar : Tables → ℕ → Effect
create_condvar x c = silent (with_queue x c [] x.thread_wait_cv)

-- Returns the condvar that thread t waits for, or none.
abbrev pub condvar_at : List CvWait → ℕ → ℕ
condvar_at v t = (get_or v t blank_cv_wait).condvar

-- Returns the cv waits without those for c.
unfoldable pub forget : List CvWait → ℕ → List CvWait
forget v c = each (λ u t. cond (eqb (condvar_at v t) c) (set u t no_cv_wait) u) v THREADS

-- cd: the condvar c is gone. Empties its queue and removes the cv wait of every thread that waits for c. Leaves
-- intents, edges and the woken threads.
unfoldable pub destroy_condvar : Tables → ℕ → Effect
destroy_condvar x c = silent (with_queue x c [] (forget x.thread_wait_cv c))

-- cb: t begins to wait for c with the lock l. Puts the pair (t, l) at the end of c's queue, even if the queue has it
-- already, and sets t's cv wait. Leaves t's holds and l's owner.
unfoldable pub begin_wait : Tables → ℕ → ℕ → ℕ → Effect
begin_wait x t c l =
    silent (with_queue x c (queue_of x c ++ (record { thread = t; lock = l } ∷ [])) (set x.thread_wait_cv t (record { condvar = c; lock = l })))

-- A walk over a queue: the tables and the woken threads so far, and the reports.
pub record Woken : Type 0 where
  pub waits : Waits
  pub woken : ℕ
  pub reports : List Report

-- Registers the thread of a pair with the intent for its lock as a mutex, filters a path that is found, and validates
-- it if it passes. Does nothing if the lock has no mutex owner.
unfoldable pub attempted : List ℕ → Waits → Pair → Judging
attempted counts w p = cond (ltb (owner_of w p.lock) THREADS) (block_mutex counts w p.thread p.lock) (quiet w)

-- Wakes the thread of one pair: marks it as woken, makes its attempt, and adds its report, if any, to those so far.
unfoldable pub wake : List ℕ → Woken → Pair → Woken
wake counts s p =
    let a = attempted counts s.waits p in
    record { waits = a.waits; woken = with s.woken p.thread; reports = s.reports ++ a.reports }

-- Wakes the thread of each pair, in order.
unfoldable pub wake_all : List ℕ → Woken → List Pair → Woken
wake_all counts s q = foldl (wake counts) s q

-- Returns the effect of waking the pairs q of c, whose queue is left with the pairs `left`. Leaves all cv waits.
abbrev pub notify : Tables → ℕ → List Pair → List Pair → Effect
notify x c q left =
    let s = wake_all x.rwlock_readers (record { waits = x.waits; woken = x.cv_woken; reports = [] }) q in
    record { tables = with_woken (with_queue x c left x.thread_wait_cv) s.waits s.woken; reports = s.reports }

-- Returns the effect of waking the first pair of a queue, or no effect if the queue is empty.
abbrev pub notify_first : Tables → ℕ → List Pair → Effect
notify_first x c [] = silent x
notify_first x c (p ∷ q) = notify x c (p ∷ []) q

-- c1: c wakes one thread. Takes the first pair (t, l), if any, out of the queue and marks t as woken. If l has a mutex
-- owner, registers t's intent for the mutex, filters a path that is found, and validates it if it passes. Leaves t's cv
-- wait and the pairs after the first.
unfoldable pub notify_one : Tables → ℕ → Effect
notify_one x c = notify_first x c (queue_of x c)

-- ca: c wakes all threads. Empties the queue, then treats each pair in order as c1 does; each may give a report.
unfoldable pub notify_all : Tables → ℕ → Effect
notify_all x c = notify x c (queue_of x c) []

-- Returns true if p is the pair (t, l).
abbrev pub is_pair : ℕ → ℕ → Pair → Bool
is_pair t l p = cond (eqb p.thread t) (eqb p.lock l) false

-- Returns the queue without the pairs (t, l).
unfoldable pub leave : ℕ → ℕ → List Pair → List Pair
leave t l [] = []
leave t l (p ∷ q) = cond (is_pair t l p) (leave t l q) (p ∷ leave t l q)

-- ce: t ends its wait for c with the lock l. Takes all pairs (t, l) out of c's queue, removes t's cv wait and its mark
-- as woken, and clears t's intent.
unfoldable pub end_wait : Tables → ℕ → ℕ → ℕ → Effect
end_wait x t c l =
    silent (with_woken (with_queue x c (leave t l (queue_of x c)) (set x.thread_wait_cv t no_cv_wait)) (clear x.waits t) (without x.cv_woken t))
