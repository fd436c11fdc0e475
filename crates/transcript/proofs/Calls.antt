-- What the calls put, one after the other, is the text of the bytes that they took.
use mathlib.Core.Path.{◌≡◌, refl, sym, ap, ap₂, ◌∙◌, subst}
use mathlib.Core.Logic.{◌⊎◌, inl, inr, ⊎_elim}
use mathlib.Core.Bool.{Bool, true, false, cond}
use mathlib.Core.List.{List, [], ◌∷◌, ◌++◌, append_assoc}
use Prim.Native.Nat.{ℕ, suc, ◌+◌, ◌-◌, ◌≤◌}
use native.Mathlib.Omega.{arith}
use lib.Dec.{ltb, lit≤}
use lib.ListN.{length, take, drop, length-append}
use borrow.Author.Tests.{ltb-true, ltb-false}
use lib.Seq.{length-take-le, take-append_seam, drop-append_seam}
use Rattle.text.specs.Promises.{Put}
use Rattle.text.proofs.Puts.{puts_coincide, put_whole}
use Rattle.transcript.specs.Chunks.{Mid, start, mid, fed, prints, ends, fed_all, prints_all, together}
use Rattle.text.specs.Lines.{lines_of}
use Rattle.transcript.specs.Replay as replay
use Rattle.transcript.specs.Replay.{limit, begin, after, line_text, last_text, text_of, replay_text}
use Rattle.transcript.specs.Promises.{Begins}
use Rattle.transcript.specs.Code.{mid_of, between}
use Rattle.transcript.specs.Calls.{Calls, none, next, FeedsCoincide, FeedsMove, AllPrinted, answers_of, last_of, TextsAnswered}
use Rattle.transcript.specs.declared.run.Run.{Run}
use Rattle.transcript.proofs.Text.{text_theorem}
use Rattle.transcript.proofs.Turning.{slice_cut}
use Rattle.transcript.proofs.Feeding.{feeds_move}

-- The bytes that were put stand between the two places.
out_put : (d s d' : List ℕ) (at r : ℕ) → r ≤ length d → Put d at s d' r → between at r d' ≡ s
out_put d s d' at r h p =
    let n : length (take at d) ≡ at = length-take-le at d (omega (arith, p.place)) in
    let w : d' ≡ take at d ++ (s ++ drop r d) = put_whole (record { fits = omega (arith, p.place) }) p ∙ append_assoc (take at d) s (drop r d) in
    let k : r - at ≡ length s = omega (arith, p.place) in
    let b : drop at d' ≡ s ++ drop r d =
    ap (drop at) w ∙ ap (λ (m : ℕ). drop m (take at d ++ (s ++ drop r d))) (sym n) ∙ drop-append_seam (take at d) (s ++ drop r d) in
    let h' : at ≤ length d' = omega (arith, ap length w, length-append (take at d) (s ++ drop r d), n) in
    sym (slice_cut at r d' h' (omega (arith, p.place))) ∙ ap₂ take k b ∙ take-append_seam s (drop r d)

-- The calls go as the definitions do over the same parts.
module _ {e : Run} {k : List ℕ} where
  pub calls_print : {r : Run} {c s : List ℕ} {ts : List (List ℕ)} → Calls r c ts s e k → (s ≡ prints_all (mid_of r c) ts) × (mid_of e k ≡ fed_all (mid_of r c) ts)
  unfolding prints_all fed_all
  calls_print none = (refl, refl)
  calls_print (next {d = d} {d' = d'} {at = at} {t = t} {ts = ts} f g) =
      let h = calls_print g in (
        ap₂ (λ (x y : List ℕ). x ++ y) (out_put d _ d' at t.at f.place f.text) (h.0 ∙ ap (λ (m : Mid). prints_all m ts) f.moves.after),
        h.1 ∙ ap (λ (m : Mid). fed_all m ts) f.moves.after,
      )

pub feeds_coincide : FeedsCoincide
feeds_coincide r c chunk from d at r' s' t u k l e f p q n =
    let part : between from t.next chunk ≡ between from u.next chunk = ap (λ (i : ℕ). between from i chunk) n in
    let same = puts_coincide d at _ e f t.at u.at p.text (subst (λ (x : List ℕ). Put d at (prints (mid_of r c) x) f u.at) (sym part) q.text) in
    (same.0, same.1, p.moves.after ∙ ap (fed (mid_of r c)) part ∙ sym q.moves.after)

pub calls_move : FeedsMove
calls_move r c chunk from d at r' t k e f h n w = feeds_move f h n w

begun_mid : {r : Run} (c : List ℕ) → Begins r → mid_of r c ≡ start
begun_mid {r} c b = ap₂ (λ (n : ℕ) (u : replay.Run). mid (take n c) u) b.have b.run

pub all_printed : AllPrinted
all_printed ts all p =
    let m = begun_mid p.carry p.begins in
    let h = calls_print p.calls in
    let f : p.fed ≡ prints_all start ts = h.0 ∙ ap (λ (m : Mid). prints_all m ts) m in
    let e : mid_of p.last p.carried ≡ fed_all start ts = h.1 ∙ ap (λ (m : Mid). fed_all m ts) m in
    p.whole
    ∙ ap₂ (λ (x y : List ℕ). x ++ y) f (out_put p.lent _ p.left p.at p.to p.fits p.finished ∙ ap ends e)
    ∙ text_theorem ts

-- ---- An answer for each line that is read, and an end

text_answers : (ls : List (List ℕ)) (r : replay.Run) → text_of r ls ≡ together (answers_of r ls) ++ last_text (last_of r ls)
unfolding text_of answers_of last_of together
text_answers [] r = refl
text_answers (l ∷ ls) r = go (ltb r.lines limit) (text_answers ls (after r l))
  where
    go : (b : Bool) → text_of (after r l) ls ≡ together (answers_of (after r l) ls) ++ last_text (last_of (after r l) ls)
        → cond b (line_text r l ++ text_of (after r l) ls) (last_text r)
        ≡ together (cond b (line_text r l ∷ answers_of (after r l) ls) []) ++ last_text (cond b (last_of (after r l) ls) r)
    go true ih =
        ap (λ (x : List ℕ). line_text r l ++ x) ih
        ∙ sym (append_assoc (line_text r l) (together (answers_of (after r l) ls)) (last_text (last_of (after r l) ls)))
    go false ih = refl

lines_answers : (ls : List (List ℕ)) (r : replay.Run) → (last_of r ls).lines ≡ r.lines + length (answers_of r ls)
unfolding answers_of last_of after
lines_answers [] r = omega arith
lines_answers (l ∷ ls) r = go (ltb r.lines limit) (lines_answers ls (after r l))
  where
    go : (b : Bool) → (last_of (after r l) ls).lines ≡ (after r l).lines + length (answers_of (after r l) ls)
        → (cond b (last_of (after r l) ls) r).lines ≡ r.lines + length (cond b (line_text r l ∷ answers_of (after r l) ls) [])
    go true ih = omega (arith, ih)
    go false ih = omega arith

-- States that from the run r on n of the lines are answered: all of them, or as many as lead to the limit.
abbrev AnsweredFrom : replay.Run → ℕ → ℕ → Type 0
AnsweredFrom r n lines = ((n ≡ lines) × (r.lines + lines ≤ limit)) ⊎ ((r.lines + n ≡ limit) × (limit ≤ r.lines + lines))

counted_answers : (ls : List (List ℕ)) (r : replay.Run) → r.lines ≤ limit → AnsweredFrom r (length (answers_of r ls)) (length ls)
unfolding answers_of after
counted_answers [] r h = inl (refl, omega (arith, h))
counted_answers (l ∷ ls) r h = go (ltb r.lines limit) refl (λ k. counted_answers ls (after r l) k)
  where
    go : (b : Bool) → ltb r.lines limit ≡ b → ((after r l).lines ≤ limit → AnsweredFrom (after r l) (length (answers_of (after r l) ls)) (length ls))
        → AnsweredFrom r (length (cond b (line_text r l ∷ answers_of (after r l) ls) [])) (length (l ∷ ls))
    go true e ih =
        ⊎_elim
        (λ z. inl (ap (λ (n : ℕ). suc n) z.0, omega (arith, z.1)))
        (λ z. inr (omega (arith, z.0), omega (arith, z.1)))
        (ih (omega (arith, ltb-true r.lines limit e)))
    go false e ih = let k = ltb-false r.lines limit e in inr (omega (arith, h, k), omega (arith, k))

pub texts_answered : TextsAnswered
unfolding replay_text
texts_answered t =
    let ls = lines_of t in
    record {
      text = text_answers ls begin;
      total = omega (arith, lines_answers ls begin);
      counted = ⊎_elim (λ z. inl (z.0, omega (arith, z.0, z.1))) (λ z. inr (omega (arith, z.0), omega (arith, z.1))) (counted_answers ls begin (lit≤ tt));
    }
