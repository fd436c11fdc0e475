-- THE TEXT THEOREM: a text in any chunks prints what the definition gives for the whole text.
use mathlib.Core.Path.{◌≡◌, refl, sym, ap, ◌∙◌}
use mathlib.Core.Bool.{Bool, true, false}
use mathlib.Core.List.{List, [], ◌∷◌, ◌++◌, append_assoc}
use Prim.Native.Nat.{ℕ, ◌<◌}
use native.Mathlib.Omega.{arith}
use borrow.Author.Tests.{leb-true, leb-false}
use lib.Dec.{eqb, ltb, leb}
use lib.ListN.{length, take, length-take}
use lib.Seq.{take_all, take-append-le, take-take}
use Rattle.text.specs.Fields.{on_first}
use Rattle.script.proofs.Steps.{line_cut}
use Rattle.detector.specs.Tables.{Tables}
use Rattle.text.specs.Bytes.{line_feed}
use Rattle.text.specs.Lines.{lines_of, carry_bytes}
use Rattle.transcript.specs.Replay.{Run, limit, begin, line_result, result_of, after, line_text, last_text, text_of, replay_text}
use Rattle.transcript.specs.Chunks.{Mid, mid, start, step, prints_byte, fed, prints, last_line, ends, fed_all, prints_all, together, TextTheorem}

-- ---- Feeding a and then b is feeding a ++ b

pub fed_append : (m : Mid) (a b : List ℕ) → fed m (a ++ b) ≡ fed (fed m a) b
unfolding fed
fed_append m [] b = refl
fed_append m (x ∷ a) b = fed_append (step m x) a b

pub prints_append : (m : Mid) (a b : List ℕ) → prints m (a ++ b) ≡ prints m a ++ prints (fed m a) b
unfolding fed prints
prints_append m [] b = refl
prints_append m (x ∷ a) b = rw (prints_append (step m x) a b, append_assoc)

pub fed_joined : (m : Mid) (ts : List (List ℕ)) → fed_all m ts ≡ fed m (together ts)
unfolding fed_all fed together
fed_joined m [] = refl
fed_joined m (t ∷ ts) = fed_joined (fed m t) ts ∙ sym (fed_append m t (together ts))

prints_joined : (m : Mid) (ts : List (List ℕ)) → prints_all m ts ≡ prints m (together ts)
unfolding prints_all prints together
prints_joined m [] = refl
prints_joined m (t ∷ ts) = ap (λ (x : List ℕ). prints m t ++ x) (prints_joined (fed m t) ts) ∙ sym (prints_append m t (together ts))

-- ---- The carry of a line is answered as the whole line

pub cut_result : (x : Tables) (p : List ℕ) → result_of x (take carry_bytes p) ≡ result_of x p
unfolding result_of
cut_result x p = ap (line_result x) (line_cut p)

more_pick : (t : Bool) (p x : List ℕ) → leb (length p) carry_bytes ≡ t → take carry_bytes (take carry_bytes p ++ x) ≡ take carry_bytes (p ++ x)
more_pick true p x e = rw (take_all carry_bytes p (leb-true (length p) carry_bytes e))
more_pick false p x e =
    let h : carry_bytes < length p = leb-false (length p) carry_bytes e in
    take-append-le carry_bytes (take carry_bytes p) x (omega (arith, length-take carry_bytes p)) ∙ take-take carry_bytes carry_bytes p (omega arith) ∙ sym (take-append-le carry_bytes p x (omega arith))

pub cut_more : (p x : List ℕ) → take carry_bytes (take carry_bytes p ++ x) ≡ take carry_bytes (p ++ x)
cut_more p x = more_pick (leb (length p) carry_bytes) p x refl

-- ---- The lines of a text that begins with the bytes of a line that is not whole yet

-- Returns the lines with the bytes p put before the first of them.
abbrev before : List ℕ → List (List ℕ) → List (List ℕ)
before [] ls = ls
before (b ∷ p) ls = on_first b (before p ls)

before_none : (p : List ℕ) → before p [] ≡ last_line p
before_none [] = refl
before_none (b ∷ []) = refl
before_none (b ∷ c ∷ p) = ap (on_first b) (before_none (c ∷ p))

before_line : (p : List ℕ) (ls : List (List ℕ)) → before p ([] ∷ ls) ≡ p ∷ ls
before_line [] ls = refl
before_line (b ∷ p) ls = ap (on_first b) (before_line p ls)

before_more : (p : List ℕ) (b : ℕ) (ls : List (List ℕ)) → before p (on_first b ls) ≡ before (p ++ (b ∷ [])) ls
before_more [] b ls = refl
before_more (x ∷ p) b ls = ap (on_first x) (before_more p b ls)

-- ---- The theorem, from any line that is not whole yet and any run

pub text_full : (r : Run) (ls : List (List ℕ)) → ltb r.lines limit ≡ false → text_of r ls ≡ last_text r
unfolding text_of
text_full r [] e = refl
text_full r (l ∷ ls) e = rw e

text_line : (r : Run) (l : List ℕ) (ls : List (List ℕ)) → ltb r.lines limit ≡ true → text_of r (l ∷ ls) ≡ line_text r l ++ text_of (after r l) ls
unfolding text_of
text_line r l ls e = rw e

text_cut : (r : Run) (p : List ℕ) → text_of r (last_line (take carry_bytes p)) ≡ text_of r (last_line p)
unfolding text_of line_text after
text_cut r [] = refl
text_cut r (b ∷ p) = rw (cut_result r.tables (b ∷ p))

-- States that what is printed for t, with the bytes p of a line that is not whole yet before it, is the text of
-- its lines.
Whole : List ℕ → Type 0
Whole t = (p : List ℕ) (r : Run) → prints (mid (take carry_bytes p) r) t ++ ends (fed (mid (take carry_bytes p) r) t) ≡ text_of r (before p (lines_of t))

whole_byte : (full feed : Bool) (b : ℕ) (t : List ℕ) (p : List ℕ) (r : Run) → ltb r.lines limit ≡ full → eqb b line_feed ≡ feed → Whole t
    → prints (mid (take carry_bytes p) r) (b ∷ t) ++ ends (fed (mid (take carry_bytes p) r) (b ∷ t)) ≡ text_of r (before p (lines_of (b ∷ t)))
unfolding Whole prints prints_byte step fed lines_of line_text after
whole_byte false feed b t p r e f ih = rw e (ih p r ∙ text_full r _ e ∙ sym (text_full r _ e))
whole_byte true true b t p r e f ih =
    rw (e, f, cut_result)
    (append_assoc (line_text r p) _ _ ∙ ap (λ (x : List ℕ). line_text r p ++ x) (ih [] (after r p)) ∙ sym (text_line r p _ e)
    ∙ ap (text_of r) (sym (before_line p (lines_of t))))
whole_byte true false b t p r e f ih = rw (e, f, cut_more) (ih (p ++ (b ∷ [])) r ∙ ap (text_of r) (sym (before_more p b (lines_of t))))

whole : (t : List ℕ) → Whole t
unfolding Whole prints fed lines_of ends
whole [] = λ p r. text_cut r p ∙ ap (text_of r) (sym (before_none p))
whole (b ∷ t) = λ p r. whole_byte (ltb r.lines limit) (eqb b line_feed) b t p r refl refl (whole t)

pub replays : (t : List ℕ) → prints start t ++ ends (fed start t) ≡ replay_text t
unfolding replay_text Whole
replays t = whole t [] begin

pub text_theorem : TextTheorem
text_theorem ts = rw (prints_joined start ts, fed_joined start ts) (replays (together ts))
