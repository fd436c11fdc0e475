-- What holds of every reached state.
use mathlib.Core.Path.{◌≡◌, refl, subst}
use mathlib.Core.List.{List, [], ◌∷◌}
use Prim.Native.Nat.{ℕ, zero, suc}
use lib.Dec.{lit<, lit≤}
use lib.ListN.{get_or, replicate}
use Rattle.detector.specs.Tables.{Tables, empty, no_cv_wait, blank_cv_wait}
use Rattle.detector.specs.State.{ValidCvWait}
use Rattle.detector.specs.declared.event.Event.{Event}
use Rattle.detector.specs.declared.state.Pair.{Pair}
use Rattle.detector.specs.Effects.{effect}
use Rattle.detector.specs.Refusals.{buffer_bytes}
use Rattle.demands.specs.Reached.{reach}
use Rattle.demands.specs.Invariants.{Kept, ReachedKept, ReachedBrief}
use Rattle.demands.specs.Demand3.{FirstHalf}
use Rattle.demands.proofs.Keeping.{effect_keeps}
use Rattle.demands.proofs.Fine.{fine_empty, blank, fine_rules}
use Rattle.detector.proofs.Brief.{all_brief}
use Rattle.demands.proofs.Events.{true_effect}

-- The empty tables keep it.
pub kept_empty : Kept empty
kept_empty =
    record {
      waits = fine_empty;
      counts = record { size = refl; small = λ k. rw (blank 2048 k) (lit≤ tt) };
      condvars = refl;
      queues = λ c. rw (none 16 c) (lit≤ tt);
      seated = λ c. rw (none 16 c) tt;
      cv_places = refl;
      cv_waits = sleep 32;
      woken = lit< tt;
    }
  where
    none : (n c : ℕ) → get_or {A = List Pair} (replicate n []) c [] ≡ []
    none zero c = refl
    none (suc n) zero = refl
    none (suc n) (suc c) = none n c

    sleep : (n t : ℕ) → ValidCvWait (get_or (replicate n no_cv_wait) t blank_cv_wait)
    sleep zero t = record { condvar = lit≤ tt; lock = lit< tt; absent = λ e. refl }
    sleep (suc n) zero = record { condvar = lit≤ tt; lock = lit< tt; absent = λ e. refl }
    sleep (suc n) (suc t) = sleep n t

-- Events keep it, one after the other.
kept_reach : (es : List Event) (x : Tables) → Kept x → Kept (reach x es)
unfolding reach
kept_reach [] x k = k
kept_reach (e ∷ es) x k = kept_reach es (effect x buffer_bytes e).tables (effect_keeps fine_rules x k buffer_bytes e)

pub reached_kept : ReachedKept
reached_kept x r = subst Kept r.reaches (kept_reach r.events empty kept_empty)

pub reached_brief : ReachedBrief
reached_brief x room e r = all_brief x room e (λ c h. (reached_kept x r).queues c)

pub first_half : FirstHalf
first_half x room e r = true_effect x room e (reached_kept x r)
