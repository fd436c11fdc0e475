use Prim.Native.Nat.{◌<◌, ◌-◌}
use lib.ListN.{length}
use mathlib.Core.Path.{◌≡◌, sym, ◌∙◌}
use borrow.Author.Rules.{rules}
use borrow.Author.Tests.{eq-eqb, ne_eqb}
use native.Mathlib.Omega.{arith}
use Rattle.waits.specs.Counts.{place, count_of}
use Rattle.detector.specs.RwLock.{release_read}
use Rattle.detector.proofs.Promises.{does_counts, count_down_at}
use Rattle.detector.proofs.Ranges.{range_loosen}
use Rattle.detector.proofs.state.Detector.release_read.Goals as goal

pub returns-then-self-place-eq0 : goal.returns-then-self-place-eq0
unfolding release_read
returns-then-self-place-eq0 c b =
    let a = c.args in
    let d = a.self.now in
    let n : length d.rwlock_readers ≡ 2048 = search rules in
    let h : place a.t a.l < length d.rwlock_readers = rw (← c.place.ensures.0) (omega (arith, c.place.ensures.1)) in
    let z : count_of d.rwlock_readers a.t a.l - 1 ≡ 0 = sym (count_down_at d.rwlock_readers a.l a.t h) ∙ (rw (c.count_down.ensures, c.place.ensures.0) at c.if-self-place-eq0.true) in
    rw (eq-eqb _ _ z, c.loosen.ensures, c.count_down.ensures)
    (does_counts d _ _ c.requires.0 (range_loosen d.waits a.t a.l c.requires.0.waits) b)

pub returns-else-self-place-eq0 : goal.returns-else-self-place-eq0
unfolding release_read
returns-else-self-place-eq0 c b =
    let a = c.args in
    let d = a.self.now in
    let n : length d.rwlock_readers ≡ 2048 = search rules in
    let h : place a.t a.l < length d.rwlock_readers = rw (← c.place.ensures.0) (omega (arith, c.place.ensures.1)) in
    let z : count_of d.rwlock_readers a.t a.l - 1 ≡ 0 → ⊥ =
    λ e. (rw (c.count_down.ensures, c.place.ensures.0) at c.if-self-place-eq0.false) (count_down_at d.rwlock_readers a.l a.t h ∙ e)
    in
    rw (ne_eqb _ _ z, c.count_down.ensures) (does_counts d _ _ c.requires.0 c.requires.0.waits b)
