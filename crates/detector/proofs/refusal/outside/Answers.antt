use Rattle.detector.specs.Refusals.{outside, buffer_bytes}
use borrow.Author.Tests.{lt-ltb, le-ltb}
use mathlib.Core.Path.{◌≡◌}
use mathlib.Core.Bool.{false}
use Prim.Native.Nat.{ℕ, suc, ◌<◌}
use native.Mathlib.Omega.{arith}
use lib.Dec.{ltb}
use Rattle.detector.proofs.refusal.outside.Goals as goal
use Rattle.detector.proofs.refusal.outside.Goals.{then-t-ge-THREADS-via-then-t-ge-THREADS, then-t-ge-THREADS-via-else-t-ge-THREADS+then-h-ge-THREADS}

within : (m n : ℕ) → n < suc m → ltb m n ≡ false
within m n h = le-ltb m n (omega (arith, h))

pub returns-then-t-ge-THREADS : goal.returns-then-t-ge-THREADS
unfolding outside
returns-then-t-ge-THREADS c =
    elim c.then-t-ge-THREADS.branch [
      | then-t-ge-THREADS-via-then-t-ge-THREADS w ↦ rw (lt-ltb 31 _ w.if-t-ge-THREADS.true)
      | then-t-ge-THREADS-via-else-t-ge-THREADS+then-h-ge-THREADS w ↦ rw (within 31 _ w.if-t-ge-THREADS.false, lt-ltb 31 _ w.if-h-ge-THREADS.true)
    ]

pub returns-then-l-ge-LOCKS : goal.returns-then-l-ge-LOCKS
unfolding outside
returns-then-l-ge-LOCKS c = rw (within 31 _ c.if-t-ge-THREADS.false, within 31 _ c.if-h-ge-THREADS.false, lt-ltb 63 _ c.if-l-ge-LOCKS.true)

pub returns-then-c-ge-CONDVARS : goal.returns-then-c-ge-CONDVARS
unfolding outside
returns-then-c-ge-CONDVARS c =
    rw (within 31 _ c.if-t-ge-THREADS.false, within 31 _ c.if-h-ge-THREADS.false, within 63 _ c.if-l-ge-LOCKS.false, lt-ltb 15 _ c.if-c-ge-CONDVARS.true)

pub returns-then-room-lt-BUFFER_BYTES : goal.returns-then-room-lt-BUFFER_BYTES
unfolding outside
returns-then-room-lt-BUFFER_BYTES c =
    rw (within 31 _ c.if-t-ge-THREADS.false, within 31 _ c.if-h-ge-THREADS.false, within 63 _ c.if-l-ge-LOCKS.false, within 15 _ c.if-c-ge-CONDVARS.false, lt-ltb _ buffer_bytes c.if-room-lt-BUFFER_BYTES.true)

pub returns : goal.returns
unfolding outside
returns c =
    rw (within 31 _ c.if-t-ge-THREADS.false, within 31 _ c.if-h-ge-THREADS.false, within 63 _ c.if-l-ge-LOCKS.false, within 15 _ c.if-c-ge-CONDVARS.false, le-ltb _ buffer_bytes c.if-room-lt-BUFFER_BYTES.false)
