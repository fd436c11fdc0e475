-- Two valid states with the same tables are the same, so the promise of an event determines its result.
use mathlib.Core.Path.{◌≡◌, sym, ap, ap₂, ◌∙◌}
use mathlib.Core.List.{List, [], map}
use Prim.Native.Nat.{ℕ, ◌<◌}
use native.Mathlib.Omega.{arith}
use native.Mathlib.Decide.{dec_lt}
use lib.ListN.{get_or, length, get_or-map}
use lib.Seq.{ext_get_or, get_or-take, length-take-le}
use Rattle.waits.specs.declared.tables.Waits.{Waits}
use Rattle.detector.specs.Tables.{Tables, no_pair}
use Rattle.detector.specs.State.{blank_queue, pairs_of, tables, Queued, Valid}
use Rattle.detector.specs.declared.state.Detector.{Detector}
use Rattle.detector.specs.declared.state.Queue.{Queue}
use Rattle.detector.specs.declared.state.Pair.{Pair}
use Rattle.detector.specs.declared.state.CvWait.{CvWait}

-- The places after a queue's end hold 0, so two valid queues with the same pairs are the same.
module _ (q r : Queue) (v : Queued q) (w : Queued r) (e : pairs_of q ≡ pairs_of r) where
  same_len : q.len ≡ r.len
  same_len =
      sym (length-take-le q.len q.pairs (omega (arith, v.cells, v.long)))
      ∙ ap length e
      ∙ length-take-le r.len r.pairs (omega (arith, w.cells, w.long))

  same_pair : (k : ℕ) → get_or q.pairs k no_pair ≡ get_or r.pairs k no_pair
  same_pair k = go (dec_lt k q.len)
    where
      go : Dec (k < q.len) → get_or q.pairs k no_pair ≡ get_or r.pairs k no_pair
      go (yes h) =
          sym (get_or-take q.len q.pairs k no_pair h)
          ∙ ap (λ (l : List Pair). get_or l k no_pair) e
          ∙ get_or-take r.len r.pairs k no_pair (omega (arith, same_len))
      go (no h) = v.unused k (omega arith) ∙ sym (w.unused k (omega (arith, same_len)))

  same_queue : q ≡ r
  same_queue =
      ap₂ (λ (l : List Pair) (n : ℕ). record { pairs = l; len = n })
      (ext_get_or no_pair q.pairs r.pairs (v.cells ∙ sym w.cells) (λ k h. same_pair k)) same_len

-- Returns the state of these tables.
abbrev made : Waits → ℕ → List ℕ → List Queue → List CvWait → Detector
made w n c q t = record { waits = w; cv_woken = n; rwlock_readers = c; condvars = record { cv_waiters = q; thread_wait_cv = t } }

-- THEOREM. Two valid states with the same tables are the same. That both have 16 queues is what their type says.
pub same_state : (d f : Detector) → Valid d → Valid f → length d.condvars.cv_waiters ≡ 16 → length f.condvars.cv_waiters ≡ 16
    → tables d ≡ tables f → d ≡ f
same_state d f v w m n e =
    let qs = d.condvars.cv_waiters in
    let rs = f.condvars.cv_waiters in
    let c : map pairs_of qs ≡ map pairs_of rs = ap (λ (x : Tables). x.cv_waiters) e in
    let s : qs ≡ rs =
    ext_get_or blank_queue qs rs (m ∙ sym n)
    (λ k h. same_queue (get_or qs k blank_queue) (get_or rs k blank_queue) (v.queues k (omega arith)) (w.queues k (omega arith))
    (sym (get_or-map pairs_of qs k blank_queue) ∙ ap (λ (l : List (List Pair)). get_or l k []) c ∙ get_or-map pairs_of rs k blank_queue)) in
    ap₂ (λ (x : Waits) (y : ℕ). made x y d.rwlock_readers qs d.condvars.thread_wait_cv) (ap (λ (x : Tables). x.waits) e) (ap (λ (x : Tables). x.cv_woken) e)
    ∙ ap₂ (λ (x : List ℕ) (y : List Queue). made f.waits f.cv_woken x y d.condvars.thread_wait_cv) (ap (λ (x : Tables). x.rwlock_readers) e) s
    ∙ ap (λ (x : List CvWait). made f.waits f.cv_woken f.rwlock_readers rs x) (ap (λ (x : Tables). x.thread_wait_cv) e)
