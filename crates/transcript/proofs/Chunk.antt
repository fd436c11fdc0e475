-- A chunk is taken up to a place and on from there. After the last line that is read nothing changes.
use mathlib.Core.Path.{◌≡◌, refl, sym, ap, ◌∙◌}
use mathlib.Core.Bool.{false}
use mathlib.Core.List.{List, [], ◌∷◌, ◌++◌}
use Prim.Native.Nat.{ℕ, ◌≤◌}
use native.Mathlib.Omega.{arith}
use borrow.Author.Tests.{le-ltb}
use lib.Dec.{ltb}
use lib.ListN.{length, take, drop, take-append-drop}
use lib.Seq.{slice_empty, take-take, take_all, drop-append-le, length-take-le}
use Rattle.transcript.specs.Replay.{limit}
use Rattle.transcript.specs.Chunks.{Mid, step, fed}
use Rattle.transcript.specs.Promises.{IsRun, Moves}
use Rattle.transcript.specs.Code.{mid_of, between}
use Rattle.transcript.specs.declared.run.Run.{Run}
use Rattle.transcript.proofs.Text.{fed_append}

-- At the limit of lines a byte, and any bytes, change nothing.
step_full : (m : Mid) (b : ℕ) → ltb m.run.lines limit ≡ false → step m b ≡ m
unfolding step
step_full m b e = rw e refl

fed_full : (m : Mid) (t : List ℕ) → ltb m.run.lines limit ≡ false → fed m t ≡ m
unfolding fed
fed_full m [] e = refl
fed_full m (b ∷ t) e = ap (λ (n : Mid). fed n t) (step_full m b e) ∙ fed_full m t e

pub between_on : (a b c : ℕ) (l : List ℕ) → a ≤ b → b ≤ c → c ≤ length l → between a c l ≡ between a b l ++ between b c l
between_on a b c l h g k =
    ap (drop a) (sym (take-append-drop b (take c l)) ∙ ap (λ (x : List ℕ). x ++ drop b (take c l)) (take-take b c l g))
    ∙ drop-append-le a (take b l) (drop b (take c l)) (omega (arith, length-take-le b l (omega arith)))

-- A move may take no byte, and two moves may follow each other.
pub moves_none : (r : Run) (carry chunk : List ℕ) (from : ℕ) → IsRun r carry → from ≤ length chunk → Moves r carry chunk from from r carry
unfolding fed
moves_none r carry chunk from k h = record { kept = k; onward = omega arith; inside = h; after = sym (ap (fed (mid_of r carry)) (slice_empty from chunk)) }

pub moves_on : {r s u : Run} {carry carry' carry'' chunk : List ℕ} {from i j : ℕ} → Moves r carry chunk from i s carry' → Moves s carry' chunk i j u carry'' → Moves r carry chunk from j u carry''
moves_on {r} {s} {u} {carry} {carry'} {carry''} {chunk} {from} {i} {j} m n =
    record {
      kept = n.kept;
      onward = omega (arith, m.onward, n.onward);
      inside = n.inside;
      after = n.after ∙ ap (λ (x : Mid). fed x (between i j chunk)) m.after ∙ sym (fed_append (mid_of r carry) (between from i chunk) (between i j chunk))
          ∙ sym (ap (fed (mid_of r carry)) (between_on from i j chunk m.onward n.onward n.inside));
    }

-- The whole chunk is taken, or as much of it as is read.
module _ {r s : Run} {carry carry' chunk : List ℕ} {i : ℕ} (m : Moves r carry chunk 0 i s carry') where
  pub moves_all : length chunk ≤ i → mid_of s carry' ≡ fed (mid_of r carry) chunk
  moves_all h = m.after ∙ ap (fed (mid_of r carry)) (take_all i chunk h)

  pub moves_full : s.lines ≡ limit → mid_of s carry' ≡ fed (mid_of r carry) chunk
  moves_full e =
      sym (fed_full (mid_of s carry') (drop i chunk) (le-ltb s.lines limit (omega arith))) ∙ ap (λ (n : Mid). fed n (drop i chunk)) m.after
      ∙ sym (fed_append (mid_of r carry) (take i chunk) (drop i chunk))
      ∙ ap (fed (mid_of r carry)) (take-append-drop i chunk)
