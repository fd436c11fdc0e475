-- A turn of the loop takes the bytes up to the next line feed and changes the run by them.
use mathlib.Core.Path.{◌≡◌, refl, sym, ap, ap₂, ◌∙◌, subst}
use mathlib.Core.Bool.{Bool, true, false, cond}
use mathlib.Core.List.{List, [], ◌∷◌, ◌++◌, append-nil}
use Prim.Native.Nat.{ℕ, suc, ◌+◌, ◌*◌, ◌-◌, ◌<◌, ◌≤◌, ◌^◌}
use native.Mathlib.Omega.{arith}
use borrow.Author.Tests.{lt-ltb, eqb-true}
use lib.Dec.{eqb, ltb}
use lib.ListN.{length, take, drop, get_or, length-take, length-drop}
use lib.Seq.{take-add, drop_at, length-take-le, take-suc, append_snoc, take_all}
use Rattle.text.specs.Fields.{up_to}
use Rattle.script.specs.Lines.{line_of}
use Rattle.text.proofs.Cut.{take_up_to}
use Rattle.detector.specs.Tables.{Tables}
use Rattle.detector.specs.declared.state.Detector.{Detector}
use Rattle.text.specs.Promises.{Room, Put}
use Rattle.answers.specs.Reports.{reports_size}
use Rattle.answers.specs.Answers.{Printed, printed, number, reply_text, cycles_text, answer_text, answer_bytes}
use Rattle.answers.specs.Promises.{ReportsInside}
use Rattle.answers.proofs.Bounds.{Bytes, answer_room, answer_bound}
use Rattle.waits.specs.Report.{Entry}
use Rattle.detector.specs.State.{tables, Valid}
use Rattle.detector.specs.Numbered.{Reply, reports_of}
use Rattle.text.specs.Bytes.{line_feed}
use Rattle.detector.specs.Refusals.{buffer_bytes}
use Rattle.transcript.specs.Replay.{Run, Result, limit, line_result, result_of, result_text, after, line_text}
use Rattle.text.specs.Lines.{carry_bytes}
use Rattle.transcript.specs.Chunks.{Mid, mid, step, prints_byte, fed, prints}
use Rattle.transcript.specs.Code.{run_of, mid_of, between}
use Rattle.transcript.specs.Promises.{IsRun, Moves}
use Rattle.transcript.specs.declared.run.Run as code
use Rattle.std.specs.Prelude.{Option, Ok, Err}
use Rattle.detector.specs.declared.event.Event.{Event}
use Rattle.transcript.proofs.Answering.{Results}
use Rattle.transcript.proofs.Text.{fed_append, prints_append, cut_result, cut_more}

-- ---- The bytes of a chunk from a place to the next line feed, and this line feed

slice_at : (from k : ℕ) (l : List ℕ) → from ≤ length l → between from (from + k) l ≡ take k (drop from l)
slice_at from k l h = ap (drop from) (take-add from k l) ∙ drop_at (take from l) (take k (drop from l)) from (length-take-le from l h)

pub slice_cut : (from e : ℕ) (l : List ℕ) → from ≤ length l → from ≤ e → take (e - from) (drop from l) ≡ between from e l
slice_cut from e l h k = let z : from + (e - from) ≡ e = omega arith in sym (slice_at from (e - from) l h) ∙ ap (λ (n : ℕ). between from n l) z

pub piece : (from e : ℕ) (l : List ℕ) → from ≤ length l → e ≡ from + length (up_to line_feed (drop from l)) → between from e l ≡ up_to line_feed (drop from l)
piece from e l h q = ap (λ (k : ℕ). between from k l) q ∙ slice_at from (length (up_to line_feed (drop from l))) l h ∙ take_up_to line_feed (drop from l)

ends_pick : (t : Bool) (d b : ℕ) (y : List ℕ) → eqb b d ≡ t → (length (up_to d y) < length y → get_or y (length (up_to d y)) 0 ≡ d)
    → length (cond t [] (b ∷ up_to d y)) < suc (length y) → get_or (b ∷ y) (length (cond t [] (b ∷ up_to d y))) 0 ≡ d
ends_pick true d b y e ih h = eqb-true b d e
ends_pick false d b y e ih h = ih (omega arith)

-- What comes after the part is the separator.
ends_with : (d : ℕ) (y : List ℕ) → length (up_to d y) < length y → get_or y (length (up_to d y)) 0 ≡ d
unfolding up_to
ends_with d [] h = absurd (omega arith)
ends_with d (b ∷ y) h = ends_pick (eqb b d) d b y refl (ends_with d y) h

pub piece_feed : (from e : ℕ) (l : List ℕ) → from ≤ length l → e ≡ from + length (up_to line_feed (drop from l)) → e < length l
    → between from (e + 1) l ≡ up_to line_feed (drop from l) ++ (line_feed ∷ [])
piece_feed from e l h q w =
    let y = drop from l in
    let k = length (up_to line_feed y) in
    let z : e + 1 ≡ from + suc k = omega arith in
    let v : k < length y = omega (arith, length-drop from l) in
    ap (λ (n : ℕ). between from n l) z ∙ slice_at from (suc k) l h ∙ take-suc y k 0 v
    ∙ ap₂ (λ (p : List ℕ) (b : ℕ). p ++ (b ∷ [])) (take_up_to line_feed y) (ends_with line_feed y v)

-- ---- A part without a line feed is carried

step_carry : (p : List ℕ) (b : ℕ) (r : Run) → ltb r.lines limit ≡ true → eqb b line_feed ≡ false → step (mid (take carry_bytes p) r) b ≡ mid (take carry_bytes (p ++ (b ∷ []))) r
unfolding step
step_carry p b r f e = rw (f, e) (ap (λ (z : List ℕ). mid z r) (cut_more p (b ∷ [])))

fed_pick : (t : Bool) (b : ℕ) (y p : List ℕ) (r : Run) → eqb b line_feed ≡ t → ltb r.lines limit ≡ true
    → ((q : List ℕ) → fed (mid (take carry_bytes q) r) (up_to line_feed y) ≡ mid (take carry_bytes (q ++ up_to line_feed y)) r)
    → fed (mid (take carry_bytes p) r) (cond t [] (b ∷ up_to line_feed y)) ≡ mid (take carry_bytes (p ++ cond t [] (b ∷ up_to line_feed y))) r
unfolding fed
fed_pick true b y p r e f ih = rw (append-nil p)
fed_pick false b y p r e f ih = ap (λ (m : Mid). fed m (up_to line_feed y)) (step_carry p b r f e) ∙ ih (p ++ (b ∷ [])) ∙ ap (λ (z : List ℕ). mid (take carry_bytes z) r) (append_snoc p b (up_to line_feed y))

pub fed_part : (y p : List ℕ) (r : Run) → ltb r.lines limit ≡ true → fed (mid (take carry_bytes p) r) (up_to line_feed y) ≡ mid (take carry_bytes (p ++ up_to line_feed y)) r
unfolding fed up_to
fed_part [] p r f = rw (append-nil p)
fed_part (b ∷ y) p r f = fed_pick (eqb b line_feed) b y p r refl f (λ q. fed_part y q r f)

prints_pick : (t : Bool) (b : ℕ) (y : List ℕ) (m : Mid) → eqb b line_feed ≡ t
    → ((n : Mid) → prints n (up_to line_feed y) ≡ [])
    → prints m (cond t [] (b ∷ up_to line_feed y)) ≡ []
unfolding prints prints_byte
prints_pick true b y m e ih = refl
prints_pick false b y m e ih = rw e (both (ltb m.run.lines limit))
  where
    both : (t : Bool) → cond t [] [] ++ prints (step m b) (up_to line_feed y) ≡ []
    both true = ih (step m b)
    both false = ih (step m b)

pub prints_part : (y : List ℕ) (m : Mid) → prints m (up_to line_feed y) ≡ []
unfolding prints up_to
prints_part [] m = refl
prints_part (b ∷ y) m = prints_pick (eqb b line_feed) b y m refl (prints_part y)

-- ---- A line feed ends the line

pub after_cut : (r : Run) (p : List ℕ) → after r (take carry_bytes p) ≡ after r p
unfolding after
after_cut r p = rw (cut_result r.tables p)

text_cut : (r : Run) (p : List ℕ) → line_text r (take carry_bytes p) ≡ line_text r p
unfolding line_text
text_cut r p = rw (cut_result r.tables p)

fed_feed : (p : List ℕ) (r : Run) → ltb r.lines limit ≡ true → fed (mid (take carry_bytes p) r) (line_feed ∷ []) ≡ mid [] (after r p)
unfolding fed step
fed_feed p r f = rw f (ap (mid []) (after_cut r p))

prints_feed : (p : List ℕ) (r : Run) → ltb r.lines limit ≡ true → prints (mid (take carry_bytes p) r) (line_feed ∷ []) ≡ line_text r p
unfolding prints prints_byte
prints_feed p r f = rw f (append-nil (line_text r (take carry_bytes p)) ∙ text_cut r p)

module _ (have : ℕ) (carry : List ℕ) (r : Run) (small : have ≤ carry_bytes) (more : r.lines < limit) where
  -- The carry is short enough already.
  carried : take carry_bytes (take have carry) ≡ take have carry
  carried = take_all carry_bytes (take have carry) (omega (arith, length-take have carry))

  free : ltb r.lines limit ≡ true
  free = lt-ltb r.lines limit more

  module _ (chunk : List ℕ) (from e : ℕ) (inside : from ≤ length chunk) (found : e ≡ from + length (up_to line_feed (drop from chunk))) where
    abbrev part : List ℕ
    part = between from e chunk

    pub part_fed : fed (mid (take have carry) r) part ≡ mid (take carry_bytes (take have carry ++ part)) r
    part_fed =
        subst (λ (q : List ℕ). fed (mid (take have carry) r) q ≡ mid (take carry_bytes (take have carry ++ q)) r) (sym (piece from e chunk inside found))
        (subst (λ (p : List ℕ). fed (mid p r) (up_to line_feed (drop from chunk)) ≡ mid (take carry_bytes (take have carry ++ up_to line_feed (drop from chunk))) r) carried
        (fed_part (drop from chunk) (take have carry) r free))

    pub part_prints : prints (mid (take have carry) r) part ≡ []
    part_prints = ap (prints (mid (take have carry) r)) (piece from e chunk inside found) ∙ prints_part (drop from chunk) (mid (take have carry) r)

    whole : e < length chunk → between from (e + 1) chunk ≡ part ++ (line_feed ∷ [])
    whole w = piece_feed from e chunk inside found w ∙ ap (λ (q : List ℕ). q ++ (line_feed ∷ [])) (sym (piece from e chunk inside found))

    pub line_fed : e < length chunk → fed (mid (take have carry) r) (between from (e + 1) chunk) ≡ mid [] (after r (take have carry ++ part))
    line_fed w =
        ap (fed (mid (take have carry) r)) (whole w) ∙ fed_append (mid (take have carry) r) part (line_feed ∷ [])
        ∙ ap (λ (m : Mid). fed m (line_feed ∷ [])) part_fed ∙ fed_feed (take have carry ++ part) r free

    pub line_prints : e < length chunk → prints (mid (take have carry) r) (between from (e + 1) chunk) ≡ line_text r (take have carry ++ part)
    line_prints w =
        ap (prints (mid (take have carry) r)) (whole w) ∙ prints_append (mid (take have carry) r) part (line_feed ∷ [])
        ∙ ap (λ (t : List ℕ). t ++ prints (fed (mid (take have carry) r) part) (line_feed ∷ [])) part_prints
        ∙ ap (λ (m : Mid). prints m (line_feed ∷ [])) part_fed ∙ prints_feed (take have carry ++ part) r free

-- ---- The answer to the line

-- As many reports are printed as the reply has.
pub printed_reports : (y : Reply) → reports_of (printed y) ≡ reports_of y
printed_reports (Ok n) = refl
printed_reports (Err r) = refl

effect_result : (n : ℕ) (f : Detector) (y : Reply) (b : List ℕ) (a : Result) → Results f y b a → answer_text n (printed y) b ≡ result_text n a
unfolding answer_text
effect_result n f y b a h = ap₂ (λ (q : Reply) (c : List (List Entry)). reply_text n (printed q) ++ cycles_text c) h.reply (rw printed_reports h.cycles)

-- There is room for the answer, and what is put is the text of the result. The answer is of what is printed of the reply.
module _ (n : ℕ) (f : Detector) (a : Reply) (b : List ℕ) (q : Result) (small : n < 2 ^ 64) (bytes : Bytes b) (s : Results f a b q) (out : List ℕ) (at : ℕ) (y : Printed) (e : y ≡ printed a) where
  few : reports_of y ≤ 32
  few = rw (e, printed_reports) s.few

  held : reports_size (reports_of y) b ≤ buffer_bytes
  held = rw (e, printed_reports) s.held

  number_small : number y < 2 ^ 64
  number_small = rw e (omega (arith, s.small))

  pub answered_room : length b ≡ buffer_bytes → at + answer_bytes ≤ length out → ReportsInside (reports_of y) b × Room out at (answer_text n y b)
  answered_room h w = (omega (arith, held), answer_room out at n y b small number_small bytes few held w)

  pub answered_line : (out' : List ℕ) (to : ℕ) → Put out at (answer_text n y b) out' to
      → Valid f × (tables f ≡ q.tables) × Put out at (result_text n q) out' to × (to ≤ at + answer_bytes)
  answered_line out' to p =
      let w = answer_bound n y b small number_small bytes few held in
      let t : answer_text n y b ≡ result_text n q = ap (λ (z : Printed). answer_text n z b) e ∙ effect_result n f a b q s in
      (s.valid, s.state, subst (λ (t : List ℕ). Put out at t out' to) t p, omega (arith, p.place, w))

pub after_line : (r : Run) (l : List ℕ) (x : Tables) (n : ℕ) → n ≡ r.lines + 1 → x ≡ (line_result r.tables (line_of l)).tables → mid [] (record { lines = n; tables = x }) ≡ mid [] (after r l)
unfolding after result_of
after_line r l x n e f = ap₂ (λ (m : ℕ) (y : Tables). mid [] (record { lines = m; tables = y })) e f

pub text_line : (r : Run) (l : List ℕ) (n : ℕ) → n ≡ r.lines + 1 → result_text n (line_result r.tables (line_of l)) ≡ line_text r l
unfolding line_text result_of
text_line r l n e = ap (λ (m : ℕ). result_text m (line_result r.tables (line_of l))) e

-- ---- Turns of the loop

-- States that the loop has gone over the chunk up to the place i, with the run s, and has put the bytes up to
-- the place `to`.
pub record Goes (r : code.Run) (carry chunk : List ℕ) (from : ℕ) (out : List ℕ) (at : ℕ) (carry' out' : List ℕ) (s : code.Run) (i to : ℕ) : Type 0 where
  pub moves : Moves r carry chunk from i s carry'
  pub text : Put out at (prints (mid_of r carry) (between from i chunk)) out' to
  pub up : r.lines ≤ s.lines
  pub short : to ≤ at + answer_bytes * (s.lines - r.lines)

-- In this turn the chunk ends before the line does.
pub carried_turn : (r : code.Run) (carry carry' chunk out : List ℕ) (from e at h : ℕ) → IsRun r carry → r.lines < limit → from < length chunk
    → (e ≡ from + length (up_to line_feed (drop from chunk))) × (e ≤ length chunk) → e ≡ length chunk → length carry' ≡ length carry
    → (h ≤ carry_bytes) × (take h carry' ≡ take carry_bytes (take r.have carry ++ take (e - from) (drop from chunk)))
    → Goes r carry chunk from out at carry' out (record { detector = r.detector; lines = r.lines; have = h }) e at
carried_turn r carry carry' chunk out from e at h k n i f q w p =
    let j : from ≤ length chunk = omega arith in
    record {
      moves = record {
        kept = record { valid = k.valid; lines = k.lines; have = p.0; long = w ∙ k.long };
        onward = omega (arith, f.0);
        inside = f.1;
        after = ap (λ (z : List ℕ). mid z (run_of r)) (p.1 ∙ ap (λ (z : List ℕ). take carry_bytes (take r.have carry ++ z)) (slice_cut from e chunk j (omega (arith, f.0)))) ∙ sym (part_fed r.have carry (run_of r) k.have n chunk from e j f.0);
      };
      text = subst (λ (z : List ℕ). Put out at z out at) (sym (part_prints r.have carry (run_of r) k.have n chunk from e j f.0)) (record { bytes = refl; place = omega arith });
      up = omega arith;
      short = omega arith;
    }

-- In this turn the line ends in the chunk.
pub line_turn : (r : code.Run) (carry carry' chunk out out' : List ℕ) (from e at to : ℕ) (d : Detector) (l : Option Event) → IsRun r carry → r.lines < limit → from < length chunk
    → (e ≡ from + length (up_to line_feed (drop from chunk))) × (e ≤ length chunk) → (e ≡ length chunk → ⊥) → length carry' ≡ length carry
    → l ≡ line_of (take r.have carry ++ take (e - from) (drop from chunk))
    → Valid d × (tables d ≡ (line_result (tables r.detector) l).tables) × Put out at (result_text (r.lines + 1) (line_result (tables r.detector) l)) out' to × (to ≤ at + answer_bytes)
    → Goes r carry chunk from out at carry' out' (record { detector = d; lines = r.lines + 1; have = 0 }) (e + 1) to
line_turn r carry carry' chunk out out' from e at to d l k n i f q w c p =
    let j : from ≤ length chunk = omega arith in
    let u : l ≡ line_of (take r.have carry ++ between from e chunk) = c ∙ ap (λ (z : List ℕ). line_of (take r.have carry ++ z)) (slice_cut from e chunk j (omega (arith, f.0))) in
    let b : e < length chunk = omega arith in
    let line : List ℕ = take r.have carry ++ between from e chunk in
    record {
      moves = record {
        kept = record { valid = p.0; lines = omega arith; have = omega arith; long = w ∙ k.long };
        onward = omega (arith, f.0);
        inside = omega arith;
        after = after_line (run_of r) line (tables d) (r.lines + 1) refl (p.1 ∙ ap (λ (z : Option Event). (line_result (tables r.detector) z).tables) u)
            ∙ sym (line_fed r.have carry (run_of r) k.have n chunk from e j f.0 b);
      };
      text = subst (λ (z : List ℕ). Put out at z out' to)
          (ap (λ (z : Option Event). result_text (r.lines + 1) (line_result (tables r.detector) z)) u ∙ text_line (run_of r) line (r.lines + 1) refl
          ∙ sym (line_prints r.have carry (run_of r) k.have n chunk from e j f.0 b))
          p.2;
      up = omega arith;
      short = omega (arith, p.3);
    }
