-- What the inner calls ask passes the tests of the calls for anybody.
use mathlib.Core.Path.{◌≡◌}
use mathlib.Core.Logic.{◌⊎◌, inl, inr}
use mathlib.Core.Bool.{Bool, true, false, cond}
use Prim.Native.Nat.{◌-◌}
use native.Mathlib.Omega.{arith}
use borrow.Author.Tests.{eq-eqb, le-ltb}
use lib.Dec.{eqb}
use Rattle.detector.proofs.Validity.{valid_tested}
use Rattle.answers.specs.Answers.{end_bytes}
use Rattle.transcript.specs.Replay.{limit}
use Rattle.guarded.specs.Promises.{run_test, feed_test, end_test, RunTaken, FeedTaken, EndTaken}

pub run_taken : RunTaken
unfolding run_test
run_taken r carry k = rw (le-ltb _ _ k.lines, le-ltb _ _ k.have, eq-eqb _ _ k.long) (valid_tested r.detector k.valid)

pub feed_taken : FeedTaken
unfolding feed_test
feed_taken r carry chunk from out at buf a = rw (le-ltb _ _ a.start, le-ltb _ _ a.place, eq-eqb _ _ a.reports) (run_taken r carry a.kept)

pub end_taken : EndTaken
unfolding end_test
end_taken r carry out at a = rw (le-ltb out at (omega (arith, a.place)), le-ltb (out - at) end_bytes (omega (arith, a.place))) (go a.closed)
  where
    t : run_test r carry ≡ true
    t = run_taken r carry a.kept

    last : (b : Bool) → r.lines ≡ limit → cond b (run_test r carry) (cond (eqb r.lines limit) (run_test r carry) false) ≡ true
    last true e = t
    last false e = rw (eq-eqb _ _ e) t

    go : (r.have ≡ 0) ⊎ (r.lines ≡ limit) → cond (eqb r.have 0) (run_test r carry) (cond (eqb r.lines limit) (run_test r carry) false) ≡ true
    go (inl e) = rw (eq-eqb _ _ e) t
    go (inr e) = last (eqb r.have 0) e
