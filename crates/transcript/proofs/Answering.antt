-- What the promise of an event makes of the answer to its line.
use mathlib.Core.Path.{◌≡◌, refl, sym, ap, ap₂, ◌∙◌, subst}
use mathlib.Core.List.{List, [], ◌∷◌, ◌++◌, map}
use Prim.Native.Nat.{ℕ, ◌+◌, ◌<◌, ◌≤◌}
use native.Mathlib.Omega.{arith}
use lib.ListN.{length, drop, length-map}
use lib.Seq.{sets-eq}
use borrow.Author.Tests.{ne_eqb}
use Rattle.waits.specs.Report.{Report, entries_of, bytes_of, written}
use Rattle.waits.specs.Promises.{laid}
use Rattle.detector.specs.Tables.{Tables, Effect, silent}
use Rattle.detector.specs.Events.{apply}
use Rattle.detector.specs.Refusals.{refusal, buffer_bytes}
use Rattle.detector.specs.State.{tables, Valid}
use Rattle.detector.specs.Numbered.{Reply, numbered, refused_by, reports_of}
use Rattle.detector.specs.Promises.{Does}
use Rattle.detector.specs.declared.event.Event.{Event}
use Rattle.detector.specs.declared.state.Detector.{Detector}
use Rattle.detector.specs.declared.refused.Refusal.{Refusal}
use Rattle.detector.specs.declared.refused.Refusal.TheVariants.{Unreadable, State, Thread, Lock, Condvar, Buffer, Queue, Count}
use native.Mathlib.Decide.{ℕ_discrete}
use Rattle.detector.specs.Effects.{effect}
use Rattle.detector.specs.Brief.{Brief}
use Rattle.detector.proofs.Serving.{refused_is, effect_served, effect_refused}
use Rattle.detector.proofs.Brief.{most_32, valid_brief}
use Rattle.answers.specs.Reports.{reports_in, reports_size, reports_bytes}
use Rattle.answers.specs.Answers.{printed, number}
use Rattle.answers.proofs.Laid.{reports_read, reports_size_lem}
use Rattle.std.specs.Prelude.{Option, Some, None, Ok, Err}
use Rattle.transcript.specs.Replay.{Result, replying, line_result}
use Rattle.transcript.specs.Promises.{Replied}

-- States that the state f and the reply r, with the reports in the report buffer b, are the result a.
pub record Results (f : Detector) (r : Reply) (b : List ℕ) (a : Result) : Type 0 where
  pub valid : Valid f
  pub state : tables f ≡ a.tables
  pub reply : r ≡ a.reply
  pub cycles : reports_in (reports_of r) b ≡ a.cycles
  pub held : reports_size (reports_of r) b ≤ buffer_bytes
  pub few : reports_of r ≤ 32
  pub small : number (printed r) < 256

-- ---- The bytes of reports are those of their entries

written_items : (rs : List Report) → written rs ≡ reports_bytes (map entries_of rs)
unfolding written reports_bytes bytes_of
written_items [] = refl
written_items (r ∷ rs) = rw (written_items rs)

laid_items : (b e : List ℕ) (rs : List Report) → length (written rs) ≤ length b → e ≡ laid b 0 (written rs) → e ≡ reports_bytes (map entries_of rs) ++ drop (length (written rs)) b
unfolding laid
laid_items b e rs h q =
    let z : 0 + length (written rs) ≡ length (written rs) = omega arith in
    q ∙ sets-eq (written rs) b 0 (omega arith) ∙ ap₂ (λ (x : List ℕ) (k : ℕ). x ++ drop k b) (written_items rs) z

read_items : (b e : List ℕ) (rs : List Report) → length (written rs) ≤ length b → e ≡ laid b 0 (written rs) → reports_in (length rs) e ≡ map entries_of rs
read_items b e rs h q =
    ap₂ reports_in (sym (length-map rs entries_of)) (laid_items b e rs h q) ∙ reports_read (map entries_of rs) (drop (length (written rs)) b)

size_items : (b e : List ℕ) (rs : List Report) → length (written rs) ≤ length b → e ≡ laid b 0 (written rs) → reports_size (length rs) e ≡ length (written rs)
size_items b e rs h q =
    ap₂ reports_size (sym (length-map rs entries_of)) (laid_items b e rs h q) ∙ reports_size_lem (map entries_of rs) (drop (length (written rs)) b) ∙ ap length (sym (written_items rs))

-- ---- A line that does not read, an event that is refused, one that is served

-- Returns the result of an event that is served.
abbrev pub served_by : Tables → Event → Result
served_by x e = replying (Ok (length (apply e x).reports)) (apply e x)

line_served : (x : Tables) (e : Event) → refusal x buffer_bytes e ≡ 0 → line_result x (Some e) ≡ served_by x e
line_served x e q = rw (effect_served x buffer_bytes e q, q)

line_refused : (x : Tables) (e : Event) → (refusal x buffer_bytes e ≡ 0 → ⊥) → line_result x (Some e) ≡ replying (Err (numbered (refusal x buffer_bytes e))) (silent x)
line_refused x e q = rw (effect_refused x buffer_bytes e q, ne_eqb (refusal x buffer_bytes e) 0 q)

-- Every refusal is printed with one digit.
small_number : (r : Refusal) → number (printed (Err r)) < 256
small_number Unreadable = omega arith
small_number State = omega arith
small_number Thread = omega arith
small_number Lock = omega arith
small_number Condvar = omega arith
small_number Buffer = omega arith
small_number Queue = omega arith
small_number Count = omega arith

pub refused_results : (d : Detector) (r : Refusal) (b : List ℕ) → Valid d → Results d (Err r) b (replying (Err r) (silent (tables d)))
unfolding reports_in reports_size
refused_results d r b g = record { valid = g; state = refl; reply = refl; cycles = refl; held = omega arith; few = omega arith; small = small_number r }

served_results : (d : Detector) (e : Event) (f : Detector) (b c : List ℕ) → Valid d → length b ≡ buffer_bytes → refusal (tables d) buffer_bytes e ≡ 0
    → Does f (length (apply e (tables d)).reports) b c (apply e (tables d))
    → Results f (Ok (length (apply e (tables d)).reports)) c (served_by (tables d) e)
served_results d e f b c g n q s =
    let x = tables d in
    let a : effect x buffer_bytes e ≡ apply e x = effect_served x buffer_bytes e q in
    let brief : Brief e (apply e x).reports = subst (λ (z : Effect). Brief e z.reports) a (valid_brief d buffer_bytes e g) in
    let h : length (written (apply e x).reports) ≤ length b = omega (arith, brief.room) in
    record {
      valid = s.valid;
      state = s.state;
      reply = refl;
      cycles = read_items b c (apply e x).reports h s.bytes;
      held = omega (arith, brief.room, size_items b c (apply e x).reports h s.bytes);
      few = omega (arith, brief.few, most_32 e);
      small = omega (arith, brief.few, most_32 e);
    }

-- ---- Where the cases of a line meet

module _ (d f : Detector) (r : Reply) (b e : List ℕ) (g : Valid d) (n : length b ≡ buffer_bytes) where
  -- An event that is served by its rule gives the result of its line.
  pub met_served : (ev : Event) → refusal (tables d) (length b) ev ≡ 0 → Does f (length (apply ev (tables d)).reports) b e (apply ev (tables d))
      → r ≡ Ok (length (apply ev (tables d)).reports) → Results f r e (line_result (tables d) (Some ev))
  met_served ev z s o =
      let q : refusal (tables d) buffer_bytes ev ≡ 0 = rw (← n) z in
      rw (o, line_served (tables d) ev q) (served_results d ev f b e g n q s)

  -- So does an event that is refused.
  pub met_refused : (ev : Event) → (refusal (tables d) (length b) ev ≡ 0 → ⊥) → refused_by r ≡ refusal (tables d) (length b) ev → f ≡ d → e ≡ b
      → Results f r e (line_result (tables d) (Some ev))
  met_refused ev z o s c =
      let q : refusal (tables d) buffer_bytes ev ≡ 0 → ⊥ = rw (← n) z in
      let k : r ≡ Err (numbered (refusal (tables d) buffer_bytes ev)) = refused_is r (omega (arith, o, z)) ∙ rw (o, n) in
      rw (k, s, c, line_refused (tables d) ev q) (refused_results d (numbered (refusal (tables d) buffer_bytes ev)) b g)

  -- So does a line that does not read.
  pub met_unreadable : r ≡ Err Unreadable → f ≡ d → e ≡ b → Results f r e (line_result (tables d) None)
  met_unreadable o s c = rw (o, s, c) (refused_results d Unreadable b g)

  -- So every line that is replied to gives its result.
  pub line_results : (l : Option Event) → Replied d l f r b e → Results f r e (line_result (tables d) l)
  line_results (Some ev) p = go (ℕ_discrete (refusal (tables d) (length b) ev) 0)
    where
      go : Dec (refusal (tables d) (length b) ev ≡ 0) → Results f r e (line_result (tables d) (Some ev))
      go (yes z) = let s = p.served z in met_served ev z s.1 s.0
      go (no z) = let s = p.refused (omega arith) in met_refused ev z s.0 s.1 s.2
  line_results None p = met_unreadable p.0 p.1 p.2
