-- How the promise of a step follows from the promise of an event.
use mathlib.Core.Path.{◌≡◌, refl, sym, ap, ◌∙◌, subst}
use mathlib.Core.List.{List}
use Prim.Native.Nat.{ℕ, zero, suc, ◌<◌, ◌≤◌}
use native.Mathlib.Omega.{arith}
use Rattle.std.specs.Prelude.{Ok, Err}
use borrow.Author.Tests.{ne_eqb}
use Rattle.detector.specs.Events.{apply}
use mathlib.Core.Bool.{true, false, cond}
use Rattle.detector.specs.Tables.{Tables, silent}
use Rattle.detector.specs.Refusals.{refusal}
use Rattle.detector.specs.Effects.{effect}
use Rattle.detector.specs.Numbered.{Reply, number, numbered, refused_by}
use Rattle.detector.specs.State.{tables, valid_test}
use Rattle.detector.specs.Promises.{Replies, refusal_of}
use Rattle.detector.specs.declared.event.Event.{Event}
use Rattle.detector.specs.declared.refused.Refusal.{Refusal}
use Rattle.detector.specs.declared.refused.Refusal.TheVariants.{Unreadable, State, Thread, Lock, Condvar, Buffer, Queue, Count}
use Rattle.detector.specs.declared.state.Detector.{Detector}

-- Every refusal has a number above 0, and its number determines it.
pub number_above : (r : Refusal) → 0 < number r
number_above Unreadable = omega arith
number_above State = omega arith
number_above Thread = omega arith
number_above Lock = omega arith
number_above Condvar = omega arith
number_above Buffer = omega arith
number_above Queue = omega arith
number_above Count = omega arith

pub numbered_number : (r : Refusal) → numbered (number r) ≡ r
numbered_number Unreadable = refl
numbered_number State = refl
numbered_number Thread = refl
numbered_number Lock = refl
numbered_number Condvar = refl
numbered_number Buffer = refl
numbered_number Queue = refl
numbered_number Count = refl

-- The refusal that has a number has this number.
pub number_numbered : (n : ℕ) → 0 < n → n ≤ 8 → number (numbered n) ≡ n
number_numbered zero h m = absurd (omega arith)
number_numbered (suc zero) h m = refl
number_numbered (suc (suc zero)) h m = refl
number_numbered (suc (suc (suc zero))) h m = refl
number_numbered (suc (suc (suc (suc zero)))) h m = refl
number_numbered (suc (suc (suc (suc (suc zero))))) h m = refl
number_numbered (suc (suc (suc (suc (suc (suc zero)))))) h m = refl
number_numbered (suc (suc (suc (suc (suc (suc (suc zero))))))) h m = refl
number_numbered (suc (suc (suc (suc (suc (suc (suc (suc zero)))))))) h m = refl
number_numbered (suc (suc (suc (suc (suc (suc (suc (suc (suc n))))))))) h m = absurd (omega arith)

-- A reply with a number above 0 is the refusal that has this number.
pub refused_is : (r : Reply) → 0 < refused_by r → r ≡ Err (numbered (refused_by r))
refused_is (Ok n) h = absurd (omega arith)
refused_is (Err f) h = ap Err (sym (numbered_number f))

-- So two replies that refuse with the same number are the same.
pub same_refusal : (r q : Reply) → refused_by r ≡ refused_by q → 0 < refused_by r → r ≡ q
same_refusal r q e h = refused_is r h ∙ ap (λ n. Err (numbered n)) e ∙ sym (refused_is q (omega arith))

-- A refusal with the same state and the same buffer keeps the promise.
pub refuse : (d : Detector) (ev : Event) (r : Refusal) (b : List ℕ) → Replies (number r) d ev d (Err r) b b
refuse d ev r b = record { refused = λ z. (refl, refl, refl); served = λ z. absurd (omega (arith, number_above r)) }

-- The promise for one refusal is the promise for an equal one.
pub renumber : {d f : Detector} {ev : Event} {r : Reply} {b e : List ℕ} {n m : ℕ} → n ≡ m → Replies n d ev f r b e → Replies m d ev f r b e
renumber {d} {f} {ev} {r} {b} {e} q a = subst (λ (k : ℕ). Replies k d ev f r b e) q a

-- The refusal of a step is that of the event if the state is valid, or 2 if it is not.
pub tested : (d : Detector) (room : ℕ) (ev : Event) → valid_test d ≡ true → refusal (tables d) room ev ≡ refusal_of d room ev
unfolding refusal_of
tested d room ev e = sym (ap (λ b. cond b (refusal (tables d) room ev) 2) e)

pub untested : (d : Detector) (room : ℕ) (ev : Event) → valid_test d ≡ false → 2 ≡ refusal_of d room ev
unfolding refusal_of
untested d room ev e = sym (ap (λ b. cond b (refusal (tables d) room ev) 2) e)

-- ---- The effect of an event, accepted or refused

pub effect_served : (x : Tables) (room : ℕ) (e : Event) → refusal x room e ≡ 0 → effect x room e ≡ apply e x
unfolding effect
effect_served x room e h = rw h

pub effect_refused : (x : Tables) (room : ℕ) (e : Event) → (refusal x room e ≡ 0 → ⊥) → effect x room e ≡ silent x
unfolding effect
effect_refused x room e h = rw (ne_eqb (refusal x room e) 0 h)
