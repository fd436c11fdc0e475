-- The events of a readers-writer lock: ra, rc, rt, rr, wa, wc, wr, rd. A read never adds a lock to a thread's holds.
use Rattle.std.specs.Prelude.{cond, ℕ, ◌-◌, eqb}
use Rattle.sets.specs.Limits.{THREADS, NOBODY}
use Rattle.sets.specs.Sets.{upward}
use Rattle.graph.specs.Graph.{remove_edges_to}
use Rattle.waits.specs.Tables.{waiters_of, writer_of, with_graph, write, unhold}
use Rattle.waits.specs.Counts.{count_of, count_up, count_down, no_readers}
use Rattle.waits.specs.Waiting.{clear, refresh}
use Rattle.waits.specs.Attempt.{settle, block, read_on, block_write}
use Rattle.waits.specs.declared.tables.Waits.{Waits}
use Rattle.waits.specs.declared.outcome.Outcome.{Outcome}
use Rattle.waits.specs.declared.outcome.Outcome.TheVariants.{Took, Blocked, Hinted}
use Rattle.waits.specs.declared.outcome.Tried.{Tried}
use Rattle.waits.specs.declared.outcome.Tried.TheVariants.{Taken, Missed}
use Rattle.detector.specs.Tables.{Tables, Effect, with_waits, with_counts, silent, with_judging}
use Rattle.detector.specs.Mutex.{gain, purge}

-- rc: t reads l. Adds one to its count and clears t's intent. Does not refresh l's waiters or add l to t's holds.
unfoldable pub complete_read : Tables → ℕ → ℕ → Effect
complete_read x t l = silent (with_counts x (clear x.waits t) (count_up x.rwlock_readers t l))

-- Registers t's intent to read l in the waits w, and validates a path that is found, without the filter.
unfoldable pub acquire_read : Tables → Waits → ℕ → ℕ → Effect
acquire_read x w t l = with_judging x (block x.rwlock_readers w t (read_on l))

-- ra: t attempts to read l, with the outcome o. If t took it, does as rc. If t was blocked, makes the hinted thread, if
-- any, the writer, registers t's intent to read, and validates a path that is found, without the filter.
abbrev pub read_attempt : Tables → ℕ → ℕ → Outcome → Effect
read_attempt x t l Took = complete_read x t l
read_attempt x t l Blocked = acquire_read x x.waits t l
read_attempt x t l (Hinted o) = acquire_read x (write x.waits o l) t l

-- Adds one to t's count for l and refreshes l's waiters with the new counts. A path is dropped, and t's intent stays.
unfoldable pub try_read : Tables → ℕ → ℕ → Effect
try_read x t l = let counts = count_up x.rwlock_readers t l in silent (with_counts x (refresh counts x.waits l).waits counts)

-- rt: t tries to read l without waiting. If t took it, adds one to its count and refreshes l's waiters; a path is
-- dropped, and t's intent stays. If t missed it, nothing changes.
abbrev pub read_try : Tables → ℕ → ℕ → Tried → Effect
read_try x t l Taken = try_read x t l
read_try x t l Missed = silent x

-- Drops the edges from l's waiters to t.
unfoldable pub loosen : Waits → ℕ → ℕ → Waits
loosen w t l = with_graph w (remove_edges_to t w.wait_for_graph (upward THREADS (waiters_of w l)))

-- rr: t gives up one read of l. Takes one off its count, or leaves it at 0. If the count is 0 after that, drops the
-- edges from l's waiters to t. Does not refresh l's waiters.
unfoldable pub release_read : Tables → ℕ → ℕ → Effect
release_read x t l =
    let counts = x.rwlock_readers in
    silent (with_counts x (cond (eqb (count_of counts t l - 1) 0) (loosen x.waits t l) x.waits) (count_down counts t l))

-- Makes t the writer of l, adds l to t's holds and clears t's intent.
unfoldable pub write_acquired : Waits → ℕ → ℕ → Waits
write_acquired w t l = gain (write w t l) t l

-- wc: t writes l. Makes t its writer, adds l to t's holds, clears t's intent, refreshes l's waiters, and validates a
-- path that the refresh finds, without the filter.
unfoldable pub complete_write : Tables → ℕ → ℕ → Effect
complete_write x t l = with_judging x (settle x.rwlock_readers (write_acquired x.waits t l) l)

-- If l has a reader or a writer, registers t's intent to write l in the waits w, and validates a path that is found,
-- without the filter. If l has neither, nothing changes.
unfoldable pub acquire_write : Tables → Waits → ℕ → ℕ → Effect
acquire_write x w t l = with_judging x (block_write x.rwlock_readers w t l)

-- wa: t attempts to write l, with the outcome o. If t took it, does as wc. If t was blocked, makes the hinted thread,
-- if any, the writer. Then, if l has a reader or a writer, registers t's intent to write and validates a path that is
-- found, without the filter. If l has neither, t keeps the intent it had.
abbrev pub write_attempt : Tables → ℕ → ℕ → Outcome → Effect
write_attempt x t l Took = complete_write x t l
write_attempt x t l Blocked = acquire_write x x.waits t l
write_attempt x t l (Hinted o) = acquire_write x (write x.waits o l) t l

-- Makes nobody the writer of l if t was, and takes l out of t's holds.
unfoldable pub write_released : Waits → ℕ → ℕ → Waits
write_released w t l = unhold (cond (eqb (writer_of w l) t) (write w NOBODY l) w) t l

-- wr: t gives up writing l. Makes nobody its writer if t was. In any case takes l out of t's holds and drops the edges
-- from l's waiters to t. Does not refresh l's waiters.
unfoldable pub release_write : Tables → ℕ → ℕ → Effect
release_write x t l = silent (with_waits x (loosen (write_released x.waits t l) t l))

-- rd: the readers-writer lock l is gone. Makes nobody its writer, sets its counts to 0, takes l out of all holds, and
-- empties its waiters. Leaves the intents that name l, and all edges.
unfoldable pub destroy_rw_lock : Tables → ℕ → Effect
destroy_rw_lock x l = silent (with_counts x (purge (write x.waits NOBODY l) l) (no_readers x.rwlock_readers l))
