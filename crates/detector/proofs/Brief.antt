-- How many reports an event gives, and how many bytes they take, wherever no queue has more than 32 pairs.
use mathlib.Core.Path.{◌≡◌, refl}
use mathlib.Core.List.{List, [], ◌∷◌, ◌++◌, foldl}
use mathlib.Core.Bool.{Bool, true, false, cond}
use Rattle.std.specs.Prelude.{Option, None, Some}
use Prim.Native.Nat.{ℕ, ◌+◌, ◌*◌, ◌≤◌}
use native.Mathlib.Omega.{arith}
use lib.Dec.{eqb, ltb, lit≤}
use lib.ListN.{length, length-append}
use borrow.Author.Tests.{eqb-true}
use Rattle.graph.proofs.Fits.{Fits}
use Rattle.waits.specs.Tables.{owner_of}
use Rattle.waits.specs.Waiting.{register, refresh, refresh_locks}
use Rattle.waits.specs.Filter.{passes}
use Rattle.waits.specs.Report.{Report, Judging, report, bytes_of, report_bytes, written, quiet, reporting}
use Rattle.waits.specs.Validate.{valid, awaited_locks, checked, validate}
use Rattle.waits.specs.Attempt.{judge_found, sieve_found, settle, block, block_mutex, mutex_on, write_on, free, block_write}
use Rattle.waits.specs.declared.tables.Waits.{Waits}
use Rattle.waits.specs.declared.intent.WaitIntent.{WaitIntent}
use Rattle.waits.specs.declared.outcome.Outcome.TheVariants.{Took, Blocked, Hinted}
use Rattle.waits.specs.declared.outcome.Tried.TheVariants.{Taken, Missed}
use Rattle.waits.proofs.Laws.{fits_register, fits_refresh, fits_locks}
use Rattle.waits.proofs.Judging.{length_bytes}
use Rattle.detector.specs.Tables.{Tables, queue_of, silent}
use Rattle.detector.specs.Mutex.{complete_acquire, acquire_slow, release_mutex, destroy_mutex}
use Rattle.detector.specs.RwLock.{complete_read, acquire_read, try_read, release_read, complete_write, acquire_write, release_write, destroy_rw_lock}
use Rattle.detector.specs.Condvar.{create_condvar, destroy_condvar, begin_wait, Woken, attempted, wake, wake_all, notify_first, notify_one, notify_all, end_wait}
use Rattle.detector.specs.Events.{apply}
use Rattle.detector.specs.Refusals.{Inside, numbers_of, refusal}
use Rattle.detector.specs.State.{tables}
use Rattle.detector.specs.declared.event.Event.{Event}
use Rattle.detector.specs.declared.event.Event.TheVariants.{MutexAttempt, MutexAcquired, MutexReleased, MutexExit, RwReadAttempt, RwReadAcquired, RwReadTry, RwReadReleased, RwWriteAttempt, RwWriteAcquired, RwWriteReleased, RwExit, CondvarSpawn, CondvarExit, CondvarWaitBegin, CondvarNotifyOne, CondvarNotifyAll, CondvarWaitEnd}
use Rattle.detector.specs.declared.state.Pair.{Pair}
use Rattle.detector.proofs.Numbers.{accepted, queue_length}
use Rattle.detector.specs.Effects.{effect}
use Rattle.detector.specs.Brief.{most, ShortQueues, Brief, AllBrief, ValidBrief}

-- States that there are at most n reports, and that they take at most report_bytes for each.
record Short (n : ℕ) (rs : List Report) : Type 0 where
  few : length rs ≤ n
  bytes : length (written rs) ≤ report_bytes * length rs

-- The empty list has at most n reports.
short_none : (n : ℕ) → Short n []
unfolding written
short_none n = record { few = omega arith; bytes = lit≤ tt }

-- ---- Judging one path

-- States that judging a path gave at most one report.
abbrev One : Judging → Type 0
One a = Short 1 a.reports

-- Reporting nothing or one cycle gives at most one report, and so does every rule that judges a path.
one_quiet : (w : Waits) → One (quiet w)
one_quiet w = short_none 1

one_reporting : (w : Waits) (p : List ℕ) → length p ≤ 32 → One (reporting w p)
unfolding written
one_reporting w p h = record { few = omega arith; bytes = omega (arith, length-append (bytes_of (report w p)) [], length_bytes w p, h) }

either : (b : Bool) (x y : Judging) → One x → One y → One (cond b x y)
either true x y h k = h
either false x y h k = k

one_checked : (c : List ℕ) (w : Waits) (o : Option (List ℕ)) → Fits o → One (checked c w o)
unfolding checked
one_checked c w None f = one_quiet w
one_checked c w (Some p) f = either (valid c w p) (reporting w p) (quiet w) (one_reporting w p f.long) (one_quiet w)

one_validate : (c : List ℕ) (w : Waits) (p : List ℕ) → length p ≤ 32 → One (validate c w p)
unfolding validate
one_validate c w p h =
    let s = refresh_locks c w (awaited_locks w p) in
    either (valid c w p) (reporting w p) (checked c s.waits s.found) (one_reporting w p h) (one_checked c s.waits s.found (fits_locks c w (awaited_locks w p)))

one_judge : (c : List ℕ) (w : Waits) (o : Option (List ℕ)) → Fits o → One (judge_found c w o)
one_judge c w None f = one_quiet w
one_judge c w (Some p) f = one_validate c w p f.long

one_sieve : (c : List ℕ) (w : Waits) (o : Option (List ℕ)) → Fits o → One (sieve_found c w o)
one_sieve c w None f = one_quiet w
one_sieve c w (Some p) f = either (passes c w p) (validate c w p) (quiet w) (one_validate c w p f.long) (one_quiet w)

module _ (c : List ℕ) (w : Waits) where
  one_settle : (l : ℕ) → One (settle c w l)
  unfolding settle
  one_settle l = let s = refresh c w l in one_judge c s.waits s.found (fits_refresh c w l)

  one_block : (t : ℕ) (i : WaitIntent) → One (block c w t i)
  unfolding block
  one_block t i = let s = register c w t i in one_judge c s.waits s.found (fits_register c w t i)

  one_mutex : (t l : ℕ) → One (block_mutex c w t l)
  unfolding block_mutex
  one_mutex t l = let s = register c w t (mutex_on l) in one_sieve c s.waits s.found (fits_register c w t (mutex_on l))

  one_write : (t l : ℕ) → One (block_write c w t l)
  unfolding block_write
  one_write t l = either (free c w l) (quiet w) (block c w t (write_on l)) (one_quiet w) (one_block t (write_on l))

  one_attempted : (p : Pair) → One (attempted c w p)
  unfolding attempted
  one_attempted p = either (ltb (owner_of w p.lock) 32) (block_mutex c w p.thread p.lock) (quiet w) (one_mutex p.thread p.lock) (one_quiet w)

-- ---- A walk over a queue

-- Two lists of reports joined take as many bytes as both.
written_length : (a b : List Report) → length (written (a ++ b)) ≡ length (written a) + length (written b)
unfolding written
written_length [] b = omega arith
written_length (r ∷ a) b = omega (arith, length-append (bytes_of r) (written (a ++ b)), length-append (bytes_of r) (written a), written_length a b)

-- A walk over a queue adds at most one report for each pair.
short_walk : (c : List ℕ) (q : List Pair) (s : Woken) (n : ℕ) → Short n s.reports → Short (n + length q) (foldl (wake c) s q).reports
unfolding wake
short_walk c [] s n h = record { few = omega (arith, h.few); bytes = h.bytes }
short_walk c (p ∷ q) s n h =
    let a = one_attempted c s.waits p in
    let rs = (attempted c s.waits p).reports in
    let k = short_walk c q (wake c s p) (n + 1) (record {
      few = omega (arith, length-append s.reports rs, h.few, a.few);
      bytes = omega (arith, length-append s.reports rs, written_length s.reports rs, h.bytes, a.bytes);
    }) in
    record { few = omega (arith, k.few); bytes = k.bytes }

-- ---- Every event

-- The event c1 gives at most one report.
short_first : (x : Tables) (c : ℕ) → Short 1 (notify_one x c).reports
unfolding notify_one wake_all
short_first x c = go (queue_of x c)
  where
    go : (q : List Pair) → Short 1 (notify_first x c q).reports
    go [] = short_none 1
    go (p ∷ q) = short_walk x.rwlock_readers (p ∷ []) _ 0 (short_none 0)

-- The event ca gives no more than 32 reports.
short_all : (x : Tables) (c : ℕ) → length (queue_of x c) ≤ 32 → Short 32 (notify_all x c).reports
unfolding notify_all wake_all
short_all x c h =
    let k = short_walk x.rwlock_readers (queue_of x c) (record { waits = x.waits; woken = x.cv_woken; reports = [] }) 0 (short_none 0) in
    record { few = omega (arith, h, k.few); bytes = k.bytes }

-- Every event gives at most as many reports as `most` says.
short_apply : (x : Tables) (e : Event) (room : ℕ) → Inside (numbers_of e) room → ShortQueues x → Short (most e) (apply e x).reports
unfolding complete_acquire acquire_slow release_mutex destroy_mutex complete_read acquire_read try_read release_read complete_write acquire_write release_write destroy_rw_lock create_condvar destroy_condvar begin_wait end_wait
short_apply x (MutexAttempt t l Took) n h k = one_settle _ _ l
short_apply x (MutexAttempt t l Blocked) n h k = one_mutex _ _ t l
short_apply x (MutexAttempt t l (Hinted o)) n h k = one_mutex _ _ t l
short_apply x (MutexAcquired t l) n h k = one_settle _ _ l
short_apply x (MutexReleased t l) n h k = short_none 0
short_apply x (MutexExit l) n h k = short_none 0
short_apply x (RwReadAttempt t l Took) n h k = short_none 1
short_apply x (RwReadAttempt t l Blocked) n h k = one_block _ _ t _
short_apply x (RwReadAttempt t l (Hinted o)) n h k = one_block _ _ t _
short_apply x (RwReadAcquired t l) n h k = short_none 0
short_apply x (RwReadTry t l Taken) n h k = short_none 0
short_apply x (RwReadTry t l Missed) n h k = short_none 0
short_apply x (RwReadReleased t l) n h k = short_none 0
short_apply x (RwWriteAttempt t l Took) n h k = one_settle _ _ l
short_apply x (RwWriteAttempt t l Blocked) n h k = one_write _ _ t l
short_apply x (RwWriteAttempt t l (Hinted o)) n h k = one_write _ _ t l
short_apply x (RwWriteAcquired t l) n h k = one_settle _ _ l
short_apply x (RwWriteReleased t l) n h k = short_none 0
short_apply x (RwExit l) n h k = short_none 0
short_apply x (CondvarSpawn c) n h k = short_none 0
short_apply x (CondvarExit c) n h k = short_none 0
short_apply x (CondvarWaitBegin t c l) n h k = short_none 0
short_apply x (CondvarNotifyOne c) n h k = short_first x c
short_apply x (CondvarNotifyAll c) n h k = short_all x c (k c h.condvar)
short_apply x (CondvarWaitEnd t c l) n h k = short_none 0

-- No event gives more than 32 reports.
pub most_32 : (e : Event) → most e ≤ 32
most_32 (MutexAttempt t l o) = lit≤ tt
most_32 (MutexAcquired t l) = lit≤ tt
most_32 (MutexReleased t l) = lit≤ tt
most_32 (MutexExit l) = lit≤ tt
most_32 (RwReadAttempt t l o) = lit≤ tt
most_32 (RwReadAcquired t l) = lit≤ tt
most_32 (RwReadTry t l o) = lit≤ tt
most_32 (RwReadReleased t l) = lit≤ tt
most_32 (RwWriteAttempt t l o) = lit≤ tt
most_32 (RwWriteAcquired t l) = lit≤ tt
most_32 (RwWriteReleased t l) = lit≤ tt
most_32 (RwExit l) = lit≤ tt
most_32 (CondvarSpawn c) = lit≤ tt
most_32 (CondvarExit c) = lit≤ tt
most_32 (CondvarWaitBegin t c l) = lit≤ tt
most_32 (CondvarNotifyOne c) = lit≤ tt
most_32 (CondvarNotifyAll c) = lit≤ tt
most_32 (CondvarWaitEnd t c l) = lit≤ tt

-- ---- THEOREMS

-- At most 32 reports, each of at most report_bytes, have room in the buffer.
brief : (e : Event) (rs : List Report) → Short (most e) rs → Brief e rs
brief e rs s = record { few = s.few; room = omega (arith, s.few, s.bytes, most_32 e) }

-- Reports are few and have room wherever the queues are short.
pub all_brief : AllBrief
unfolding effect
all_brief x room e k = go (eqb (refusal x room e) 0) refl
  where
    go : (b : Bool) → eqb (refusal x room e) 0 ≡ b → Brief e (cond b (apply e x) (silent x)).reports
    go true q = brief e _ (short_apply x e room (accepted x room e (eqb-true _ _ q)).inside k)
    go false q = brief e _ (short_none (most e))

-- That is so in every valid state.
pub valid_brief : ValidBrief
valid_brief d room e v = all_brief (tables d) room e (λ c h. omega (arith, queue_length d c v h, (v.queues c h).long))
