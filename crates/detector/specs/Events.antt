-- The rule of each word.
use Rattle.detector.specs.Tables.{Tables, Effect}
use Rattle.detector.specs.Mutex.{mutex_attempt, complete_acquire, release_mutex, destroy_mutex}
use Rattle.detector.specs.RwLock.{read_attempt, complete_read, read_try, release_read, write_attempt, complete_write, release_write, destroy_rw_lock}
use Rattle.detector.specs.Condvar.{create_condvar, destroy_condvar, begin_wait, notify_one, notify_all, end_wait}
use Rattle.detector.specs.declared.event.Event.{Event}
use Rattle.detector.specs.declared.event.Event.TheVariants.{MutexAttempt, MutexAcquired, MutexReleased, MutexExit, RwReadAttempt, RwReadAcquired, RwReadTry, RwReadReleased, RwWriteAttempt, RwWriteAcquired, RwWriteReleased, RwExit, CondvarSpawn, CondvarExit, CondvarWaitBegin, CondvarNotifyOne, CondvarNotifyAll, CondvarWaitEnd}

-- Returns the effect of an event, by the rule of its word.
abbrev pub apply : Event → Tables → Effect
-- The words ma, mc, mr and md.
apply (MutexAttempt t l o) x = mutex_attempt x t l o
apply (MutexAcquired t l) x = complete_acquire x t l
apply (MutexReleased t l) x = release_mutex x t l
apply (MutexExit l) x = destroy_mutex x l
-- The words ra, rc, rt and rr.
apply (RwReadAttempt t l o) x = read_attempt x t l o
apply (RwReadAcquired t l) x = complete_read x t l
apply (RwReadTry t l o) x = read_try x t l o
apply (RwReadReleased t l) x = release_read x t l
-- The words wa, wc, wr and rd.
apply (RwWriteAttempt t l o) x = write_attempt x t l o
apply (RwWriteAcquired t l) x = complete_write x t l
apply (RwWriteReleased t l) x = release_write x t l
apply (RwExit l) x = destroy_rw_lock x l
-- The words cn, cd, cb, c1, ca and ce.
apply (CondvarSpawn c) x = create_condvar x c
apply (CondvarExit c) x = destroy_condvar x c
apply (CondvarWaitBegin t c l) x = begin_wait x t c l
apply (CondvarNotifyOne c) x = notify_one x c
apply (CondvarNotifyAll c) x = notify_all x c
apply (CondvarWaitEnd t c l) x = end_wait x t c l
