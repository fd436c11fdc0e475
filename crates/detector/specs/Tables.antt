-- THE TABLES, and the effect of an event on them.
use Rattle.std.specs.Prelude.{List, [], ℕ, get_or, set, replicate}
use Rattle.sets.specs.Limits.{THREADS}
use Rattle.detector.specs.Limits.{CONDVARS, NONE}
use Rattle.waits.specs.Counts.{COUNTS}
use Rattle.waits.specs.Tables as waiting
use Rattle.waits.specs.Report.{Report, Judging}
use Rattle.waits.specs.declared.tables.Waits.{Waits}
use Rattle.detector.specs.declared.state.Pair.{Pair}
use Rattle.detector.specs.declared.state.CvWait.{CvWait}

-- All tables: the waits, the reader counts, each condvar's queue, each thread's cv wait, and the woken threads.
pub record Tables : Type 0 where
  pub waits : Waits
  pub rwlock_readers : List ℕ
  pub cv_waiters : List (List Pair)
  pub thread_wait_cv : List CvWait
  pub cv_woken : ℕ

-- Stands at the places of a queue that are not in use.
abbrev pub no_pair : Pair
no_pair = record { thread = 0; lock = 0 }

-- Stands for no cv wait.
abbrev pub no_cv_wait : CvWait
no_cv_wait = record { condvar = NONE; lock = 0 }

-- Stands for what is read outside the table of cv waits.
abbrev pub blank_cv_wait : CvWait
blank_cv_wait = record { condvar = 0; lock = 0 }

-- Returns the empty tables: empty waits, counts of 0, empty queues, no cv waits, and no thread woken.
abbrev pub empty : Tables
empty =
    record {
      waits = waiting.empty;
      rwlock_readers = replicate COUNTS 0;
      cv_waiters = replicate CONDVARS [];
      thread_wait_cv = replicate THREADS no_cv_wait;
      cv_woken = 0;
    }

-- Returns the pairs in the queue of condvar c, in order.
abbrev pub queue_of : Tables → ℕ → List Pair
queue_of x c = get_or x.cv_waiters c []

-- WRITING
-- Returns the tables with other waits.
abbrev pub with_waits : Tables → Waits → Tables
with_waits x w =
    record {
      waits = w;
      rwlock_readers = x.rwlock_readers;
      cv_waiters = x.cv_waiters;
      thread_wait_cv = x.thread_wait_cv;
      cv_woken = x.cv_woken;
    }

-- Returns the tables with other waits and other counts.
abbrev pub with_counts : Tables → Waits → List ℕ → Tables
with_counts x w counts =
    record {
      waits = w;
      rwlock_readers = counts;
      cv_waiters = x.cv_waiters;
      thread_wait_cv = x.thread_wait_cv;
      cv_woken = x.cv_woken;
    }

-- Returns the tables with q as the queue of c, and with v as the cv waits.
abbrev pub with_queue : Tables → ℕ → List Pair → List CvWait → Tables
with_queue x c q v =
    record {
      waits = x.waits;
      rwlock_readers = x.rwlock_readers;
      cv_waiters = set x.cv_waiters c q;
      thread_wait_cv = v;
      cv_woken = x.cv_woken;
    }

-- Returns the tables with other waits, and with m as the woken threads.
abbrev pub with_woken : Tables → Waits → ℕ → Tables
with_woken x w m =
    record {
      waits = w;
      rwlock_readers = x.rwlock_readers;
      cv_waiters = x.cv_waiters;
      thread_wait_cv = x.thread_wait_cv;
      cv_woken = m;
    }

-- EFFECT. The tables after an event, and its reports in order, each with the tables in which it was last validated.
pub record Effect : Type 0 where
  pub tables : Tables
  pub reports : List Report

-- Returns the effect that has these tables and no report.
abbrev pub silent : Tables → Effect
silent x = record { tables = x; reports = [] }

-- Returns the effect of judging a path: the tables with its waits, and its reports.
abbrev pub with_judging : Tables → Judging → Effect
with_judging x a = record { tables = with_waits x a.waits; reports = a.reports }
