-- Reports are true, and the judgements keep the waits fine.
use mathlib.Core.Path.{◌≡◌, refl, sym, ap}
use mathlib.Core.List.{List, [], ◌∷◌, ◌++◌, map}
use mathlib.Core.Bool.{Bool, true, false, cond, false≢true}
use Rattle.std.specs.Prelude.{Option, None, Some}
use Prim.Native.Nat.{ℕ, ◌<◌}
use Rattle.sets.specs.Lists.{In, Distinct}
use Rattle.sets.proofs.Lists.{among_in, both}
use Rattle.graph.specs.Ways.{Round, Ring}
use Rattle.waits.specs.Tables.{intent_of, lock_of}
use Rattle.waits.specs.Owners.{blocking, waits_for}
use Rattle.waits.specs.Waiting.{Linking, register, refresh, refresh_locks}
use Rattle.waits.specs.Filter.{passes}
use Rattle.waits.specs.Report.{Report, Entry, entry_of, entries_of, Judging, quiet, reporting}
use Rattle.waits.specs.Validate.{around, valid, awaited_locks, checked, validate}
use Rattle.waits.specs.Attempt.{judge_found, judge, sieve_found, sieve, settle, block, block_mutex, mutex_on}
use Rattle.waits.specs.declared.tables.Waits.{Waits}
use Rattle.waits.specs.declared.intent.WaitIntent.{WaitIntent}
use Rattle.demands.specs.Invariants.{Fine}
use Rattle.demands.specs.Demand3.{Blocks, TrueCycle, Each}
use Rattle.demands.proofs.Fine.{Neat, Stepped, stepped_register, stepped_refresh, stepped_locks}

-- ---- Lists of reports

pub each_map : (P Q : Report → Type 0) → ((r : Report) → P r → Q r) → (rs : List Report) → Each P rs → Each Q rs
each_map P Q h [] k = tt
each_map P Q h (r ∷ rs) k = (h r k.0, each_map P Q h rs k.1)

pub each_append : (P : Report → Type 0) (a b : List Report) → Each P a → Each P b → Each P (a ++ b)
each_append P [] b h k = k
each_append P (r ∷ a) b h k = (h.0, each_append P a b h.1 k)

-- ---- What passes the validation is a true cycle

pub waits_blocks : (c : List ℕ) (w : Waits) (a b : ℕ) → waits_for c w a b ≡ true → Blocks c w (entry_of w a) b
unfolding waits_for
waits_blocks c w a b e = go (intent_of w a) refl (among_in b _ e)
  where
    go : (i : Option WaitIntent) → intent_of w a ≡ i → In b (blocking c w i) → Blocks c w (entry_of w a) b
    go None q m = absurd m
    go (Some i) q m = record { intent = i; awaits = q; beside = sym (ap lock_of q); owns = m }

-- States that an entry's wait is blocked by the thread of the next entry.
abbrev Next : List ℕ → Waits → Entry → Entry → Type 0
Next c w p q = Blocks c w p q.thread

around_true : (c : List ℕ) (w : Waits) (f a : ℕ) (r : List ℕ) → around c w f a r ≡ true → Round (Next c w) (entry_of w f) (entry_of w a) (map (entry_of w) r)
unfolding around
around_true c w f a [] e = waits_blocks c w a f e
around_true c w f a (b ∷ r) e = let h = both (waits_for c w a b) (around c w f b r) e in (waits_blocks c w a b h.0, around_true c w f b r h.1)

valid_closed : (c : List ℕ) (w : Waits) (p : List ℕ) → valid c w p ≡ true → Ring (Next c w) (map (entry_of w) p)
unfolding valid
valid_closed c w [] e = false≢true e
valid_closed c w (a ∷ r) e = around_true c w a a r e

threads_of : (w : Waits) (p : List ℕ) → map (λ (q : Entry). q.thread) (map (entry_of w) p) ≡ p
threads_of w [] = refl
threads_of w (t ∷ p) = ap (λ (l : List ℕ). t ∷ l) (threads_of w p)

valid_true : (c : List ℕ) (w : Waits) (p : List ℕ) → Distinct p → valid c w p ≡ true → TrueCycle c w (map (entry_of w) p)
valid_true c w p d e = record { once = rw (threads_of w p) d; closed = valid_closed c w p e }

-- ---- Judgements

-- States that the report r was made in waits w and is true there.
pub record Made (c : List ℕ) (w : Waits) (r : Report) : Type 0 where
  pub cycle : TrueCycle c r.state (entries_of r)
  pub here : r.state ≡ w

-- States that after the judgement a the waits are fine, and that its reports were made in them.
pub record Fair (c : List ℕ) (a : Judging) : Type 0 where
  pub fine : Fine a.waits
  pub each : Each (Made c a.waits) a.reports

pub fair_quiet : (c : List ℕ) (w : Waits) → Fine w → Fair c (quiet w)
fair_quiet c w f = record { fine = f; each = tt }

fair_reporting : (c : List ℕ) (w : Waits) (p : List ℕ) → Fine w → Distinct p → valid c w p ≡ true → Fair c (reporting w p)
fair_reporting c w p f d e = record { fine = f; each = (record { cycle = valid_true c w p d e; here = refl }, tt) }

-- Checking a path once more is fair, and so is validating one.
fair_checked : (c : List ℕ) (w : Waits) (o : Option (List ℕ)) → Fine w → Neat o → Fair c (checked c w o)
unfolding checked
fair_checked c w None f n = fair_quiet c w f
fair_checked c w (Some p) f n = go (valid c w p) refl
  where
    go : (b : Bool) → valid c w p ≡ b → Fair c (cond b (reporting w p) (quiet w))
    go true e = fair_reporting c w p f n e
    go false e = fair_quiet c w f

fair_validate : (c : List ℕ) (w : Waits) (p : List ℕ) → Fine w → Distinct p → Fair c (validate c w p)
unfolding validate
fair_validate c w p f n = go (valid c w p) refl
  where
    s : Linking
    s = refresh_locks c w (awaited_locks w p)

    r : Stepped (refresh_locks c w (awaited_locks w p))
    r = stepped_locks c w (awaited_locks w p) f

    go : (b : Bool) → valid c w p ≡ b → Fair c (cond b (reporting w p) (checked c s.waits s.found))
    go true e = fair_reporting c w p f n e
    go false e = fair_checked c s.waits s.found r.fine r.neat

-- Judging a path without the filter is fair, and so is judging it with the filter.
fair_judge : (c : List ℕ) (s : Linking) → Stepped s → Fair c (judge c s)
fair_judge c s r = go s.found r.neat
  where
    go : (o : Option (List ℕ)) → Neat o → Fair c (judge_found c s.waits o)
    go None n = fair_quiet c s.waits r.fine
    go (Some p) n = fair_validate c s.waits p r.fine n

fair_sieve : (c : List ℕ) (s : Linking) → Stepped s → Fair c (sieve c s)
fair_sieve c s r = go s.found r.neat
  where
    pass : (p : List ℕ) (b : Bool) → Distinct p → Fair c (cond b (validate c s.waits p) (quiet s.waits))
    pass p true n = fair_validate c s.waits p r.fine n
    pass p false n = fair_quiet c s.waits r.fine

    go : (o : Option (List ℕ)) → Neat o → Fair c (sieve_found c s.waits o)
    go None n = fair_quiet c s.waits r.fine
    go (Some p) n = pass p (passes c s.waits p) n

-- The judgements of a lock acquired, of a blocked attempt, and of a blocked mutex attempt are fair.
pub fair_settle : (c : List ℕ) (w : Waits) (l : ℕ) → Fine w → Fair c (settle c w l)
unfolding settle
fair_settle c w l f = fair_judge c (refresh c w l) (stepped_refresh c w l f)

pub fair_block : (c : List ℕ) (w : Waits) (t : ℕ) (i : WaitIntent) → t < 32 → i.lock_id < 64 → Fine w → Fair c (block c w t i)
unfolding block
fair_block c w t i h k f = fair_judge c (register c w t i) (stepped_register c w t i h k f)

pub fair_mutex : (c : List ℕ) (w : Waits) (t l : ℕ) → t < 32 → l < 64 → Fine w → Fair c (block_mutex c w t l)
unfolding block_mutex
fair_mutex c w t l h k f = fair_sieve c (register c w t (mutex_on l)) (stepped_register c w t (mutex_on l) h k f)
