use Rattle.detector.proofs.Promises.{not_full_lem}
use Rattle.detector.proofs.Numbers.{accepted, room_left}
use Rattle.detector.specs.State.{tables}
use Rattle.detector.proofs.state.Detector.apply.Goals as goal

pub acquire_slow_with_recheck-requires : goal.acquire_slow_with_recheck-requires
acquire_slow_with_recheck-requires c =
    let a = rw c.in-MutexAttempt.is at (accepted (tables c.args.self.now) _ _ c.requires.1) in
    (c.requires.0, a.inside.thread, a.inside.lock, a.inside.hint, a.inside.room)

pub complete_acquire-requires : goal.complete_acquire-requires
complete_acquire-requires c =
    let a = rw c.in-MutexAcquired.is at (accepted (tables c.args.self.now) _ _ c.requires.1) in
    (c.requires.0, a.inside.thread, a.inside.lock, a.inside.room)

pub release_mutex-requires : goal.release_mutex-requires
release_mutex-requires c =
    let a = rw c.in-MutexReleased.is at (accepted (tables c.args.self.now) _ _ c.requires.1) in
    (c.requires.0, a.inside.thread, a.inside.lock)

pub destroy_mutex-requires : goal.destroy_mutex-requires
destroy_mutex-requires c =
    let a = rw c.in-MutexExit.is at (accepted (tables c.args.self.now) _ _ c.requires.1) in
    (c.requires.0, a.inside.lock)

pub acquire_read_slow_with_recheck-requires : goal.acquire_read_slow_with_recheck-requires
acquire_read_slow_with_recheck-requires c =
    let a = rw c.in-RwReadAttempt.is at (accepted (tables c.args.self.now) _ _ c.requires.1) in
    (c.requires.0, a.inside.thread, a.inside.lock, a.inside.hint, a.not_full, a.inside.room)

pub complete_read-requires : goal.complete_read-requires
complete_read-requires c =
    let a = rw c.in-RwReadAcquired.is at (accepted (tables c.args.self.now) _ _ c.requires.1) in
    (c.requires.0, a.inside.thread, a.inside.lock, not_full_lem (tables c.args.self.now) _ _ a.not_full)

pub try_read_nonblocking-requires : goal.try_read_nonblocking-requires
try_read_nonblocking-requires c =
    let a = rw c.in-RwReadTry.is at (accepted (tables c.args.self.now) _ _ c.requires.1) in
    (c.requires.0, a.inside.thread, a.inside.lock, a.not_full)

pub release_read-requires : goal.release_read-requires
release_read-requires c =
    let a = rw c.in-RwReadReleased.is at (accepted (tables c.args.self.now) _ _ c.requires.1) in
    (c.requires.0, a.inside.thread, a.inside.lock)

pub acquire_write_slow_with_recheck-requires : goal.acquire_write_slow_with_recheck-requires
acquire_write_slow_with_recheck-requires c =
    let a = rw c.in-RwWriteAttempt.is at (accepted (tables c.args.self.now) _ _ c.requires.1) in
    (c.requires.0, a.inside.thread, a.inside.lock, a.inside.hint, a.inside.room)

pub complete_write-requires : goal.complete_write-requires
complete_write-requires c =
    let a = rw c.in-RwWriteAcquired.is at (accepted (tables c.args.self.now) _ _ c.requires.1) in
    (c.requires.0, a.inside.thread, a.inside.lock, a.inside.room)

pub release_write-requires : goal.release_write-requires
release_write-requires c =
    let a = rw c.in-RwWriteReleased.is at (accepted (tables c.args.self.now) _ _ c.requires.1) in
    (c.requires.0, a.inside.thread, a.inside.lock)

pub destroy_rwlock-requires : goal.destroy_rwlock-requires
destroy_rwlock-requires c =
    let a = rw c.in-RwExit.is at (accepted (tables c.args.self.now) _ _ c.requires.1) in
    (c.requires.0, a.inside.lock)

pub create_condvar-requires : goal.create_condvar-requires
create_condvar-requires c =
    let a = rw c.in-CondvarSpawn.is at (accepted (tables c.args.self.now) _ _ c.requires.1) in
    (c.requires.0, a.inside.condvar)

pub destroy_condvar-requires : goal.destroy_condvar-requires
destroy_condvar-requires c =
    let a = rw c.in-CondvarExit.is at (accepted (tables c.args.self.now) _ _ c.requires.1) in
    (c.requires.0, a.inside.condvar)

pub begin_wait-requires : goal.begin_wait-requires
begin_wait-requires c =
    let a = rw c.in-CondvarWaitBegin.is at (accepted (tables c.args.self.now) _ _ c.requires.1) in
    (c.requires.0, a.inside.thread, a.inside.condvar, a.inside.lock, room_left c.args.self.now _ c.requires.0 a.inside.condvar a.not_full)

pub notify_one-requires : goal.notify_one-requires
notify_one-requires c =
    let a = rw c.in-CondvarNotifyOne.is at (accepted (tables c.args.self.now) _ _ c.requires.1) in
    (c.requires.0, a.inside.condvar, a.inside.room)

pub notify_all-requires : goal.notify_all-requires
notify_all-requires c =
    let a = rw c.in-CondvarNotifyAll.is at (accepted (tables c.args.self.now) _ _ c.requires.1) in
    (c.requires.0, a.inside.condvar, a.inside.room)

pub end_wait-requires : goal.end_wait-requires
end_wait-requires c =
    let a = rw c.in-CondvarWaitEnd.is at (accepted (tables c.args.self.now) _ _ c.requires.1) in
    (c.requires.0, a.inside.thread, a.inside.condvar, a.inside.lock)

pub returns-in-MutexReleased : goal.returns-in-MutexReleased
returns-in-MutexReleased c = rw c.in-MutexReleased.is (c.release_mutex.ensures c.args.buf.now)

pub returns-in-MutexExit : goal.returns-in-MutexExit
returns-in-MutexExit c = rw c.in-MutexExit.is (c.destroy_mutex.ensures c.args.buf.now)

pub returns-in-RwReadAcquired : goal.returns-in-RwReadAcquired
returns-in-RwReadAcquired c = rw c.in-RwReadAcquired.is (c.complete_read.ensures c.args.buf.now)

pub returns-in-RwReadTry : goal.returns-in-RwReadTry
returns-in-RwReadTry c = rw c.in-RwReadTry.is (c.try_read_nonblocking.ensures c.args.buf.now)

pub returns-in-RwReadReleased : goal.returns-in-RwReadReleased
returns-in-RwReadReleased c = rw c.in-RwReadReleased.is (c.release_read.ensures c.args.buf.now)

pub returns-in-RwWriteReleased : goal.returns-in-RwWriteReleased
returns-in-RwWriteReleased c = rw c.in-RwWriteReleased.is (c.release_write.ensures c.args.buf.now)

pub returns-in-RwExit : goal.returns-in-RwExit
returns-in-RwExit c = rw c.in-RwExit.is (c.destroy_rwlock.ensures c.args.buf.now)

pub returns-in-CondvarSpawn : goal.returns-in-CondvarSpawn
returns-in-CondvarSpawn c = rw c.in-CondvarSpawn.is (c.create_condvar.ensures c.args.buf.now)

pub returns-in-CondvarExit : goal.returns-in-CondvarExit
returns-in-CondvarExit c = rw c.in-CondvarExit.is (c.destroy_condvar.ensures c.args.buf.now)

pub returns-in-CondvarWaitBegin : goal.returns-in-CondvarWaitBegin
returns-in-CondvarWaitBegin c = rw c.in-CondvarWaitBegin.is (c.begin_wait.ensures c.args.buf.now)

pub returns-in-CondvarWaitEnd : goal.returns-in-CondvarWaitEnd
returns-in-CondvarWaitEnd c = rw c.in-CondvarWaitEnd.is (c.end_wait.ensures c.args.buf.now)
