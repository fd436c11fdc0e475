-- What the events do to the waits keeps them in range.
use mathlib.Core.List.{List}
use mathlib.Core.Bool.{Bool, true, false, cond}
use Prim.Native.Nat.{ℕ}
use lib.Dec.{eqb, lit≤}
use Rattle.sets.proofs.Below.{each_keeps}
use Rattle.waits.specs.Tables.{InRange, owner_of, writer_of, with_holds, own, write, unhold}
use Rattle.waits.specs.declared.tables.Waits.{Waits}
use Rattle.waits.proofs.Laws.{range_own, range_write, range_clear, range_graph}
use Rattle.detector.specs.Mutex.{gain, released, unhold_all, purge}
use Rattle.detector.specs.RwLock.{write_released, loosen}

pub range_holds : (w : Waits) (h : List ℕ) → InRange w → InRange (with_holds w h)
range_holds w h s = record { locks = s.locks; owner = s.owner; writer = s.writer }

range_cond : (b : Bool) (v w : Waits) → InRange v → InRange w → InRange (cond b v w)
range_cond true v w p q = p
range_cond false v w p q = q

pub range_gain : (w : Waits) (t l : ℕ) → InRange w → InRange (gain w t l)
range_gain w t l s = range_clear _ t (range_holds w _ s)

pub range_released : (w : Waits) (t l : ℕ) → InRange w → InRange (released w t l)
unfolding released
range_released w t l s = range_holds _ _ (range_cond (eqb (owner_of w l) t) (own w 32 l) w (range_own w l 32 (lit≤ tt) s) s)

pub range_write_released : (w : Waits) (t l : ℕ) → InRange w → InRange (write_released w t l)
unfolding write_released
range_write_released w t l s = range_holds _ _ (range_cond (eqb (writer_of w l) t) (write w 32 l) w (range_write w l 32 (lit≤ tt) s) s)

pub range_loosen : (w : Waits) (t l : ℕ) → InRange w → InRange (loosen w t l)
unfolding loosen
range_loosen w t l s = range_graph w _ s

pub range_purge : (w : Waits) (l : ℕ) → InRange w → InRange (purge w l)
unfolding purge unhold_all
range_purge w l s =
    let v = each_keeps InRange (λ v t. unhold v t l) 32 w (λ v t h p. range_holds v _ p) s in
    record { locks = v.locks; owner = v.owner; writer = v.writer }
