-- Turns follow each other, and the text ends.
use mathlib.Core.Path.{◌≡◌, refl, sym, ap, ap₂, ◌∙◌, subst}
use mathlib.Core.Bool.{true}
use mathlib.Core.Logic.{◌⊎◌, inl, inr}
use mathlib.Core.List.{List, [], ◌∷◌, ◌++◌, append-nil}
use Prim.Native.Nat.{ℕ, ◌+◌, ◌<◌, ◌≤◌}
use native.Mathlib.Omega.{arith}
use borrow.Author.Tests.{lt-ltb, le-ltb}
use lib.Dec.{ltb}
use lib.ListN.{length, take}
use lib.Seq.{slice_empty}
use Rattle.text.specs.Promises.{Put}
use Rattle.answers.specs.Answers.{answer_bytes, end_text}
use Rattle.text.proofs.Puts.{then}
use native.Mathlib.Decide.{ℕ_discrete}
use Rattle.detector.specs.Tables.{Tables, empty}
use Rattle.detector.specs.State.{tables, Valid}
use Rattle.detector.specs.declared.state.Detector.{Detector}
use Rattle.detector.specs.Stuck.{stuck_count, edge_count}
use Rattle.text.specs.Bytes.{line_feed}
use Rattle.transcript.specs.Replay.{Run, limit, last_text, text_of}
use Rattle.text.specs.Lines.{carry_bytes}
use Rattle.transcript.specs.Chunks.{Mid, mid, step, prints_byte, fed, prints, ends, last_line, OpenLine}
use Rattle.transcript.specs.Code.{run_of, mid_of, between}
use Rattle.transcript.specs.Promises.{Begins, IsRun, Feeds}
use Rattle.transcript.specs.declared.run.Run as code
use Rattle.transcript.specs.declared.run.Turned.{Turned}
use Rattle.transcript.proofs.Text.{prints_append, text_full}
use Rattle.transcript.proofs.Chunk.{between_on, moves_none, moves_on}
use Rattle.transcript.proofs.Turning.{Goes}

-- ---- Turns, one after the other

pub goes_none : (r : code.Run) (carry chunk : List ℕ) (from : ℕ) (out : List ℕ) (at : ℕ) → IsRun r carry → from ≤ length chunk → Goes r carry chunk from out at carry out r from at
unfolding prints
goes_none r carry chunk from out at k h =
    record {
      moves = moves_none r carry chunk from k h;
      text = subst (λ (s : List ℕ). Put out at s out at) (sym (ap (prints (mid_of r carry)) (slice_empty from chunk))) (record { bytes = refl; place = omega arith });
      up = omega arith;
      short = omega arith;
    }

module _ {r : code.Run} {carry chunk : List ℕ} {from : ℕ} {out : List ℕ} {at : ℕ} {carry' out' : List ℕ} {s : code.Run} {i to : ℕ} (g : Goes r carry chunk from out at carry' out' s i to) where
  pub goes_on : {carry'' out'' : List ℕ} {u : code.Run} {j to' : ℕ} → Goes s carry' chunk i out' to carry'' out'' u j to' → Goes r carry chunk from out at carry'' out'' u j to'
  goes_on {carry''} {out''} {u} {j} {to'} h =
      let m : Mid = mid_of r carry in
      record {
        moves = moves_on g.moves h.moves;
        text = subst (λ (z : List ℕ). Put out at z out'' to')
            (ap (λ (n : Mid). prints m (between from i chunk) ++ prints n (between i j chunk)) g.moves.after ∙ sym (prints_append m (between from i chunk) (between i j chunk))
            ∙ sym (ap (prints m) (between_on from i j chunk g.moves.onward h.moves.onward h.moves.inside)))
            (then g.text h.text);
        up = omega (arith, g.up, h.up);
        short = omega (arith, g.up, h.up, g.short, h.short);
      }

  pub goes_done : to ≤ length out → (i < length chunk → s.lines < limit → length out < to + answer_bytes) → Feeds r carry chunk from out at s (record { next = i; at = to }) carry' out'
  goes_done w h = record { moves = g.moves; text = g.text; place = w; short = g.short; stops = h }

-- A call with bytes, a line and room left takes at least one byte.
pub feeds_move : {r : code.Run} {carry chunk : List ℕ} {from : ℕ} {out : List ℕ} {at : ℕ} {r' : code.Run} {t : Turned} {carry' out' : List ℕ} → Feeds r carry chunk from out at r' t carry' out'
    → from < length chunk → r.lines < limit → at + answer_bytes ≤ length out → from < t.next
unfolding fed prints
feeds_move {r} {carry} {chunk} {from} {out} {at} {r'} {t} {carry'} {out'} f h k w = go (ℕ_discrete from t.next)
  where
    go : Dec (from ≡ t.next) → from < t.next
    go (no n) = omega (arith, n, f.moves.onward)
    go (yes e) =
        let cut : between from t.next chunk ≡ [] = ap (λ (j : ℕ). between from j chunk) (sym e) ∙ slice_empty from chunk in
        let same : r'.lines ≡ r.lines = ap (λ (m : Mid). m.run.lines) (f.moves.after ∙ ap (fed (mid_of r carry)) cut) in
        let here : t.at ≡ at + length (prints (mid_of r carry) []) = f.text.place ∙ ap (λ (z : List ℕ). at + length (prints (mid_of r carry) z)) cut in
        absurd (omega (arith, f.stops (omega arith) (omega arith), here))

-- ---- The end

pub totals_text : (n e s : ℕ) (x : Tables) → e ≡ edge_count x.waits.wait_for_graph.edges → s ≡ stuck_count x → end_text n e s ≡ last_text (record { lines = n; tables = x })
unfolding last_text
totals_text n e s x p q = ap₂ (end_text n) p q

pub ends_none : (r : code.Run) (carry : List ℕ) → r.have ≡ 0 → ends (mid_of r carry) ≡ last_text (run_of r)
unfolding ends text_of
ends_none r carry e = ap (λ (h : ℕ). text_of (run_of r) (last_line (take h carry))) e

pub ends_full : (r : code.Run) (carry : List ℕ) → r.lines ≡ limit → ends (mid_of r carry) ≡ last_text (run_of r)
unfolding ends
ends_full r carry e = text_full (run_of r) (last_line (take r.have carry)) (le-ltb r.lines limit (omega arith))

-- Where no line is left to answer, only the totals are printed.
pub ends_closed : (r : code.Run) (carry : List ℕ) → (r.have ≡ 0) ⊎ (r.lines ≡ limit) → ends (mid_of r carry) ≡ last_text (run_of r)
ends_closed r carry (inl e) = ends_none r carry e
ends_closed r carry (inr e) = ends_full r carry e

pub open_line : OpenLine
unfolding ends text_of prints prints_byte fed step
open_line m h k = go m.part m.run h (lt-ltb m.run.lines limit k)
  where
    go : (p : List ℕ) (r : Run) → (p ≡ [] → ⊥) → ltb r.lines limit ≡ true → prints (mid p r) (line_feed ∷ []) ++ ends (fed (mid p r) (line_feed ∷ [])) ≡ ends (mid p r)
    go [] r h e = absurd (h refl)
    go (b ∷ p) r h e = rw (e, append-nil)

-- ---- The start

pub begins : (d : Detector) → tables d ≡ empty → Valid d → Begins (record { detector = d; lines = 0; have = 0 })
begins d e v =
    record {
      valid = v;
      run = ap (λ (x : Tables). record { lines = 0; tables = x }) e;
      have = refl;
    }

pub begins_kept : {r : code.Run} {carry : List ℕ} → Begins r → length carry ≡ carry_bytes → IsRun r carry
begins_kept b h = record { valid = b.valid; lines = omega (arith, ap (λ (u : Run). u.lines) b.run); have = omega (arith, b.have); long = h }
