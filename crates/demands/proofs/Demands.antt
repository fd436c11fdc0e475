-- The demands are carried to what `step` returns, by its promise alone.
use mathlib.Core.Path.{◌≡◌, refl, sym, ap, ap₂, ◌∙◌, subst, subst₂}
use mathlib.Core.List.{List, [], ◌∷◌, ◌++◌}
use Prim.Native.Nat.{ℕ, zero, suc, ◌<◌}
use native.Mathlib.Omega.{arith}
use native.Mathlib.Decide.{ℕ_discrete}
use lib.ListN.{length, length-map}
use borrow.Author.Tests.{ne_eqb}
use Rattle.waits.specs.Report.{written}
use Rattle.waits.specs.Promises.{laid}
use Rattle.waits.specs.declared.outcome.Outcome.{Outcome}
use Rattle.waits.proofs.Judging.{laid_none}
use Rattle.detector.specs.Tables.{Tables, Effect, empty}
use Rattle.detector.specs.Refusals.{refusal, buffer_bytes}
use Rattle.detector.specs.State.{pairs_of, tables, Valid}
use Rattle.detector.specs.Numbered.{Reply, refused_by, reports_of}
use Rattle.detector.specs.Promises.{refusal_of, Steps}
use Rattle.detector.specs.declared.event.Event.{Event}
use Rattle.detector.specs.declared.event.Event.TheVariants.{MutexAttempt, RwWriteAttempt, RwReadAttempt}
use Rattle.detector.specs.declared.state.Detector.{Detector}
use Rattle.detector.specs.Effects.{effect, replied}
use Rattle.demands.specs.Reached.{reach, Reached}
use Rattle.demands.specs.Driven.{Call, Stepped, Back, Driven, none, next, Starts}
use Rattle.detector.specs.Typed.{Typed}
use Rattle.demands.specs.Demand1.{AllAnswered, AllAnsweredFromNew, EachAnswered, RefusedByNumber}
use Rattle.demands.specs.Demand2.{onward, backs, reach_by, NoTwo, FedAsRuled, Coincide, StepsCoincide}
use Rattle.demands.specs.Demand3.{ReportsTrue, Converse, MutexConverse, RwConverse, Attempted, Called, CalledHalf}
use Rattle.demands.proofs.Events.{accepted_full}
use Rattle.detector.proofs.Serving.{effect_served, effect_refused}
use Rattle.demands.proofs.Invariants.{first_half}
use Rattle.demands.proofs.Exact.{second_half}
use Rattle.demands.proofs.StepAnswered.{step_answered, starts_typed, served_held}
use Rattle.detector.proofs.Validity.{valid_tested}
use Rattle.detector.proofs.Numbers.{refusal_known}
use Rattle.detector.proofs.SameState.{same_state}
use Rattle.detector.proofs.Serving.{number_numbered, refused_is, same_refusal}

-- ---- DEMAND 1

pub all_answered : AllAnswered
all_answered d h [] = ([], d, none, h)
all_answered d h (k ∷ ks) =
    let s = step_answered d k h in
    let f = all_answered s.0.detector s.3 ks in
    (record { reply = s.0.reply; buffer = s.1 } ∷ f.0, f.1, next s.2 f.2, f.3)

pub all_answered_from_new : AllAnsweredFromNew
all_answered_from_new d s ks = let f = all_answered d (starts_typed d s) ks in (f.0, f.1, f.2)

pub each_answered : EachAnswered
each_answered d e ks bs f = go f
  where
    go : {d : Detector} {ks : List Call} {bs : List Back} {e : Detector} → Driven d ks bs e → length bs ≡ length ks
    go none = refl
    go (next s f) = ap suc (go f)

pub refused_by_number : RefusedByNumber
refused_by_number d ev r b e s = record { number = number (refusal_of d (length b) ev) refl; same = λ h. same (rw (number (refusal_of d (length b) ev) refl) at h) }
  where
    number : (n : ℕ) → refusal_of d (length b) ev ≡ n → refused_by r.reply ≡ refusal_of d (length b) ev
    number zero q = ap refused_by (s.served q).0 ∙ sym q
    number (suc n) q = (s.refused (omega arith)).0

    same : 0 < refusal_of d (length b) ev → (r.detector ≡ d) × (e ≡ b)
    same h = let p = s.refused h in (p.1, p.2)

-- ---- The rules' run

reach_snoc : (es : List Event) (e : Event) (x : Tables) → reach x (es ++ (e ∷ [])) ≡ (effect (reach x es) buffer_bytes e).tables
unfolding reach
reach_snoc [] e x = refl
reach_snoc (f ∷ es) e x = reach_snoc es e (effect x buffer_bytes f).tables

-- One event more, with any buffer, leads to reached tables.
pub reached_next : (x : Tables) (n : ℕ) (e : Event) → Reached x → Reached (effect x n e).tables
reached_next x n e r = go (ℕ_discrete (refusal x n e) 0)
  where
    go : Dec (refusal x n e ≡ 0) → Reached (effect x n e).tables
    go (yes h) =
        record {
          events = r.events ++ (e ∷ []);
          reaches = reach_snoc r.events e empty ∙ ap (λ (y : Tables). (effect y buffer_bytes e).tables) r.reaches
              ∙ ap (λ (a : Effect). a.tables) (effect_served x buffer_bytes e (accepted_full x n e h) ∙ sym (effect_served x n e h));
        }
    go (no h) = record { events = r.events; reaches = r.reaches ∙ ap (λ (a : Effect). a.tables) (sym (effect_refused x n e h)) }

reached_by : (ks : List Call) (x : Tables) → Reached x → Reached (reach_by x ks)
unfolding reach_by
reached_by [] x r = r
reached_by (k ∷ ks) x r = reached_by ks (onward x k) (reached_next x (length k.lent) k.event r)

-- ---- No rule gives refusal 2

refused_replied : (x : Tables) (n : ℕ) (e : Event) → refused_by (replied x n e) ≡ refusal x n e
refused_replied x n e = go (ℕ_discrete (refusal x n e) 0)
  where
    go : Dec (refusal x n e ≡ 0) → refused_by (replied x n e) ≡ refusal x n e
    go (yes h) = rw h
    go (no h) = rw (ne_eqb (refusal x n e) 0 h) (number_numbered (refusal x n e) (omega arith) (refusal_known x n e).most)

no_two_lem : (ks : List Call) (x : Tables) → NoTwo (backs x ks)
unfolding backs
no_two_lem [] x = tt
no_two_lem (k ∷ ks) x = (
  λ z. let n = refusal_known x (length k.lent) k.event in absurd (omega (arith, refused_replied x (length k.lent) k.event, z, n.least (omega (arith, refused_replied x (length k.lent) k.event, z)))),
  no_two_lem ks (onward x k),
)

-- ---- DEMANDS 2 AND 3

-- States that what a call gives back is what the rules give.
record Follows (d : Detector) (ev : Event) (r : Stepped) (b e : List ℕ) : Type 0 where
  reply : r.reply ≡ replied (tables d) (length b) ev
  bytes : e ≡ laid b 0 (written (effect (tables d) (length b) ev).reports)
  after : tables r.detector ≡ (effect (tables d) (length b) ev).tables
  valid : Valid r.detector

same_back : {p q : Reply} {b c : List ℕ} → p ≡ q → b ≡ c → ◌≡◌ {A = Back} (record { reply = p; buffer = b }) (record { reply = q; buffer = c })
same_back p q = λ i. record { reply = p i; buffer = q i }

counted : (x : Tables) (n : ℕ) (e : Event) → reports_of (replied x n e) ≡ length (effect x n e).reports
counted x n e = go (ℕ_discrete (refusal x n e) 0)
  where
    go : Dec (refusal x n e ≡ 0) → reports_of (replied x n e) ≡ length (effect x n e).reports
    go (yes h) = rw h
    go (no h) = rw (ne_eqb (refusal x n e) 0 h, effect_refused x n e h)

follows : (d : Detector) (ev : Event) (r : Stepped) (b e : List ℕ) → Valid d → Steps d ev r.detector r.reply b e → Follows d ev r b e
unfolding refusal_of written
follows d ev r b e v s = go (ℕ_discrete (refusal (tables d) (length b) ev) 0)
  where
    ruled : refusal_of d (length b) ev ≡ refusal (tables d) (length b) ev
    ruled = rw (valid_tested d v)

    go : Dec (refusal (tables d) (length b) ev ≡ 0) → Follows d ev r b e
    go (yes h) =
        let a = s.served (ruled ∙ h) in
        record {
          reply = rw (h, effect_served (tables d) (length b) ev h) a.0;
          bytes = rw (effect_served (tables d) (length b) ev h) a.1.bytes;
          after = rw (effect_served (tables d) (length b) ev h) a.1.state;
          valid = a.1.valid;
        }
    go (no h) =
        let p = s.refused (omega (arith, ruled)) in
        record {
          reply = refused_is r.reply (omega (arith, p.0, ruled)) ∙ rw (p.0, ruled, ne_eqb (refusal (tables d) (length b) ev) 0 h);
          bytes = rw (effect_refused (tables d) (length b) ev h) (p.2 ∙ sym (laid_none b 0));
          after = rw (effect_refused (tables d) (length b) ev h) (ap tables p.1);
          valid = subst Valid (sym p.1) v;
        }

-- States that calls from a valid state give back what the rules give, and lead to a valid state.
record Ran (x : Tables) (ks : List Call) (bs : List Back) (e : Detector) : Type 0 where
  answers : bs ≡ backs x ks
  after : tables e ≡ reach_by x ks
  valid : Valid e

ran : {d : Detector} {ks : List Call} {bs : List Back} {e : Detector} → Driven d ks bs e → Valid d → Ran (tables d) ks bs e
unfolding backs reach_by
ran none v = record { answers = refl; after = refl; valid = v }
ran (next {d = d} {k = k} {r = r} {b = b} {ks = ks} {bs = bs} s f) v =
    let q = follows d k.event r k.lent b v s in
    let n = ran f q.valid in
    record {
      answers = ap₂ (λ (p : Back) (l : List Back). p ∷ l) (same_back q.reply q.bytes) (n.answers ∙ ap (λ (y : Tables). backs y ks) q.after);
      after = n.after ∙ ap (λ (y : Tables). reach_by y ks) q.after;
      valid = n.valid;
    }

pub as_ruled : FedAsRuled
unfolding reach
as_ruled d e ks bs s f =
    let n = subst (λ (x : Tables). Ran x ks bs e) s.blank (ran f s.valid) in
    record {
      answers = n.answers;
      state = n.after;
      valid = n.valid;
      reached = reached_by ks empty (record { events = []; reaches = refl });
      no_two = subst NoTwo (sym n.answers) (no_two_lem ks empty);
    }

pub coincide : Coincide
coincide d e d' e' ks bs bs' s f s' f' =
    let n = as_ruled d e ks bs s f in
    let m = as_ruled d' e' ks bs' s' f' in
    (n.answers ∙ sym m.answers, n.state ∙ sym m.state)

-- As many queues come out of a step as the types can hold.
queues_out : (d : Detector) (ev : Event) (r : Stepped) (b e : List ℕ) → Typed d → Steps d ev r.detector r.reply b e → refusal_of d (length b) ev ≡ 0 → length r.detector.condvars.cv_waiters ≡ 16
queues_out d ev r b e y s z =
    sym (length-map r.detector.condvars.cv_waiters pairs_of)
    ∙ ap (λ (x : Tables). length x.cv_waiters) (s.served z).1.state
    ∙ (served_held d ev (length b) y z).condvars

pub steps_coincide : StepsCoincide
steps_coincide d ev r q b e f h s t = go (refusal_of d (length b) ev) refl
  where
    go : (n : ℕ) → refusal_of d (length b) ev ≡ n → (r ≡ q) × (e ≡ f)
    go zero z =
        let x = s.served z in
        let y = t.served z in (
          ap₂ (λ (c : Detector) (p : Reply). record { detector = c; reply = p })
              (same_state r.detector q.detector x.1.valid y.1.valid (queues_out d ev r b e h s z) (queues_out d ev q b f h t z) (x.1.state ∙ sym y.1.state)) (x.0 ∙ sym y.0),
          x.1.bytes ∙ sym y.1.bytes,
        )
    go (suc n) z =
        let x = s.refused (omega (arith, z)) in
        let y = t.refused (omega (arith, z)) in
        (ap₂ (λ (c : Detector) (p : Reply). record { detector = c; reply = p }) (x.1 ∙ sym y.1) (same_refusal r.reply q.reply (x.0 ∙ sym y.0) (omega (arith, x.0, z))), x.2 ∙ sym y.2)

-- A state that is fed from the empty one is reached.
fed_reached : (d₀ d : Detector) (ks : List Call) (bs : List Back) → Starts d₀ → Driven d₀ ks bs d → Reached (tables d)
fed_reached d₀ d ks bs s f = let n = as_ruled d₀ d ks bs s f in subst Reached (sym n.state) n.reached

pub reports_true : ReportsTrue
reports_true d₀ d ks bs s f ev r b e t =
    let q = follows d ev r b e (as_ruled d₀ d ks bs s f).valid t in
    record {
      reports = (effect (tables d) (length b) ev).reports;
      count = ap reports_of q.reply ∙ counted (tables d) (length b) ev;
      bytes = q.bytes;
      each = rw q.after (first_half (tables d) (length b) ev (fed_reached d₀ d ks bs s f));
    }

-- The second half of demand 3 is carried from the rules to what `step` returns.
carried : (C : Converse) (event : ℕ → ℕ → Outcome → Event) → Attempted C event → Called C event
carried C event half d₀ d ks bs s f x t l o r b e k z =
    let q = follows d (event t l o) r b e (as_ruled d₀ d ks bs s f).valid k in
    let n = half (tables d) (length b) t l o (fed_reached d₀ d ks bs s f) x (sym (refused_replied (tables d) (length b) (event t l o)) ∙ sym (ap refused_by q.reply) ∙ z) in
    subst₂ (C (tables d) t l o) (sym (ap reports_of q.reply ∙ counted (tables d) (length b) (event t l o))) (sym q.after) n

pub converse : CalledHalf
converse =
    record {
      mutex = carried MutexConverse MutexAttempt second_half.mutex;
      read = carried RwConverse RwReadAttempt second_half.read;
      write = carried RwConverse RwWriteAttempt second_half.write;
    }
