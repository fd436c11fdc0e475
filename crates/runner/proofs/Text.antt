-- THE TEXT THEOREM of tables: a text in any chunks prints what the definition gives for the whole text.
use mathlib.Core.Path.{◌≡◌, refl, sym, ap, ◌∙◌}
use mathlib.Core.Bool.{Bool, true, false, cond}
use mathlib.Core.List.{List, [], ◌∷◌, ◌++◌, append_assoc, append-nil}
use Prim.Native.Nat.{ℕ, suc, ◌+◌}
use native.Mathlib.Omega.{arith}
use lib.Dec.{eqb, ltb}
use lib.ListN.{take}
use Rattle.text.specs.Fields.{on_first}
use Rattle.listing.specs.Listing.{tables_text}
use Rattle.text.specs.Bytes.{line_feed}
use Rattle.text.specs.Lines.{lines_of, carry_bytes}
use Rattle.transcript.specs.Replay.{Run, Result, limit, begin, after, line_text, result_text}
use Rattle.transcript.specs.Chunks.{Mid, mid, start, step, fed, last_line, together}
use Rattle.transcript.proofs.Turning.{after_cut}
use Rattle.transcript.proofs.Text.{fed_joined, cut_result, cut_more}
use Rattle.runner.specs.Shown.{line_shown, shown_of, shown_text, shows_byte, shows, closes, shows_all, ShownTheorem}
use Rattle.runner.specs.Promises.{line_ends}
use Rattle.runner.proofs.Lines.{line_ends_more, shown_full}

-- ---- Chunks print as they do joined

shows_append : (m : Mid) (a b : List ℕ) → shows m (a ++ b) ≡ shows m a ++ shows (fed m a) b
unfolding fed shows
shows_append m [] b = refl
shows_append m (x ∷ a) b = rw (shows_append (step m x) a b, append_assoc)

shows_joined : (m : Mid) (ts : List (List ℕ)) → shows_all m ts ≡ shows m (together ts)
unfolding shows_all shows together
shows_joined m [] = refl
shows_joined m (t ∷ ts) = ap (λ (x : List ℕ). shows m t ++ x) (shows_joined (fed m t) ts) ∙ sym (shows_append m t (together ts))

-- ---- The carry of a line is shown as the whole line

line_cut : (r : Run) (p : List ℕ) → line_shown r (take carry_bytes p) ≡ line_shown r p
unfolding line_shown line_text
line_cut r p = rw (after_cut r p) (ap (λ (a : Result). result_text (r.lines + 1) a ++ tables_text (after r p).tables) (cut_result r.tables p))

last_cut : (r : Run) (p : List ℕ) → shown_of r (last_line (take carry_bytes p)) ≡ shown_of r (last_line p)
unfolding shown_of
last_cut r [] = refl
last_cut r (b ∷ p) = rw (line_cut r (b ∷ p), after_cut r (b ∷ p)) refl

-- ---- The lines of a text that begins with bytes in which no line ends

other : (x : ℕ) (p : List ℕ) → line_ends (x ∷ p) ≡ 0 → (eqb x line_feed ≡ false) × (line_ends p ≡ 0)
unfolding line_ends
other x p = go (eqb x line_feed) refl
  where
    go : (f : Bool) → eqb x line_feed ≡ f → cond f (suc (line_ends p)) (line_ends p) ≡ 0 → (eqb x line_feed ≡ false) × (line_ends p ≡ 0)
    go true e h = absurd (omega arith)
    go false e h = (e, h)

lines_last : (p : List ℕ) → line_ends p ≡ 0 → lines_of p ≡ last_line p
unfolding lines_of
lines_last [] h = refl
lines_last (x ∷ []) h = rw (other x [] h).0 refl
lines_last (x ∷ y ∷ p) h = rw (other x (y ∷ p) h).0 (ap (on_first x) (lines_last (y ∷ p) (other x (y ∷ p) h).1))

lines_line : (p : List ℕ) (b : ℕ) (t : List ℕ) → line_ends p ≡ 0 → eqb b line_feed ≡ true → lines_of (p ++ (b ∷ t)) ≡ p ∷ lines_of t
unfolding lines_of
lines_line [] b t h e = rw e refl
lines_line (x ∷ p) b t h e = rw (other x p h).0 (ap (on_first x) (lines_line p b t (other x p h).1 e))

line_ends_none : (p : List ℕ) (b : ℕ) → line_ends p ≡ 0 → eqb b line_feed ≡ false → line_ends (p ++ (b ∷ [])) ≡ 0
unfolding line_ends
line_ends_none p b h e = line_ends_more p b ∙ rw (h, e) refl

-- ---- The theorem, from any line that is not whole yet and any run

shown_line : (r : Run) (l : List ℕ) (ls : List (List ℕ)) → ltb r.lines limit ≡ true → shown_of r (l ∷ ls) ≡ line_shown r l ++ shown_of (after r l) ls
unfolding shown_of
shown_line r l ls e = rw e

-- States that what is printed for t, with the bytes p of a line that is not whole yet before it, is the text of
-- its lines.
Whole : List ℕ → Type 0
Whole t = (p : List ℕ) → line_ends p ≡ 0 → (r : Run) → shows (mid (take carry_bytes p) r) t ++ closes (fed (mid (take carry_bytes p) r) t) ≡ shown_of r (lines_of (p ++ t))

whole_byte : (free feed : Bool) (b : ℕ) (t : List ℕ) (p : List ℕ) (h : line_ends p ≡ 0) (r : Run) → ltb r.lines limit ≡ free → eqb b line_feed ≡ feed → Whole t
    → shows (mid (take carry_bytes p) r) (b ∷ t) ++ closes (fed (mid (take carry_bytes p) r) (b ∷ t)) ≡ shown_of r (lines_of (p ++ (b ∷ t)))
unfolding Whole shows shows_byte step fed line_ends
whole_byte false feed b t p h r e f ih = rw e (ih p h r ∙ shown_full r _ e ∙ sym (shown_full r _ e))
whole_byte true true b t p h r e f ih =
    rw (e, f, line_cut r p, after_cut r p)
    (append_assoc (line_shown r p) _ _ ∙ ap (λ (x : List ℕ). line_shown r p ++ x) (ih [] refl (after r p)) ∙ sym (shown_line r p _ e)
    ∙ ap (shown_of r) (sym (lines_line p b t h f)))
whole_byte true false b t p h r e f ih =
    rw (e, f, cut_more p (b ∷ [])) (ih (p ++ (b ∷ [])) (line_ends_none p b h f) r ∙ ap (λ (x : List ℕ). shown_of r (lines_of x)) (append_assoc p (b ∷ []) t))

whole : (t : List ℕ) → Whole t
unfolding Whole shows fed closes
whole [] = λ p h r. last_cut r p ∙ ap (shown_of r) (sym (ap lines_of (append-nil p) ∙ lines_last p h))
whole (b ∷ t) = λ p h r. whole_byte (ltb r.lines limit) (eqb b line_feed) b t p h r refl refl (whole t)

pub shown_theorem : ShownTheorem
unfolding shown_text Whole line_ends
shown_theorem ts = rw (shows_joined start ts, fed_joined start ts) (whole (together ts) [] refl begin)
