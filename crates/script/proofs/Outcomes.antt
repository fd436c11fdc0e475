-- An outcome is found by its bytes, or else by its number.
use mathlib.Core.Path.{◌≡◌, refl}
use mathlib.Core.Bool.{Bool, true, false, cond}
use mathlib.Core.List.{List}
use Prim.Native.Nat.{ℕ}
use native.Mathlib.Omega.{arith}
use lib.ListN.{length, get_or}
use Rattle.std.specs.Prelude.{Some, None, option_map}
use Rattle.std.proofs.lemmas.Slice.Eq.{text_from_reads}
use Rattle.text.specs.Bytes.{text, equal}
use Rattle.text.specs.Numbers.{number_of, digits_from}
use Rattle.text.proofs.Numbers.{equal_true, equal_apart}
use Rattle.script.specs.Outcomes.{outcome_of}
use Rattle.waits.specs.declared.outcome.Outcome.TheVariants.{Took, Blocked, Hinted}

pub took : (f : List ℕ) → length f ≡ 4 → get_or f 0 0 ≡ 116 → get_or f 1 0 ≡ 111 → get_or f 2 0 ≡ 111 → get_or f 3 0 ≡ 107 → Some Took ≡ outcome_of f
unfolding outcome_of equal
took f h a b c d = rw (text_from_reads f (text "took") h (a, (b, (c, (d, tt)))))

pub blocked : (f : List ℕ) → length f ≡ 1 → get_or f 0 0 ≡ 45 → Some Blocked ≡ outcome_of f
unfolding outcome_of equal
blocked f h a = rw (text_from_reads f (text "-") h (a, tt))

-- The two words are no numbers, so a field that is a number is none of them.
pub hinted : (f : List ℕ) (h : ℕ) → number_of f ≡ Some h → Some (Hinted h) ≡ outcome_of f
unfolding outcome_of number_of digits_from
hinted f h e = go (equal f (text "took")) (equal f (text "-")) refl refl
  where
    go : (t u : Bool) → equal f (text "took") ≡ t → equal f (text "-") ≡ u → Some (Hinted h) ≡ cond t (Some Took) (cond u (Some Blocked) (option_map Hinted (number_of f)))
    go true u p q = let n : None ≡ Some h = rw (equal_true f (text "took") p) at e in cc
    go false true p q = let n : None ≡ Some h = rw (equal_true f (text "-") q) at e in cc
    go false false p q = rw e

-- A field that is no number, and differs from both words in its length or in a byte, spells no outcome.
pub none : (f : List ℕ) → number_of f ≡ None → (length f ≡ 4 → get_or f 0 0 ≡ 116 → get_or f 1 0 ≡ 111 → get_or f 2 0 ≡ 111 → get_or f 3 0 ≡ 107 → ⊥) → (length f ≡ 1 → get_or f 0 0 ≡ 45 → ⊥) → None ≡ outcome_of f
unfolding outcome_of
none f e h g =
    let t : false ≡ equal f (text "took") = equal_apart f (text "took") (λ l p. h l (p 0 (omega arith)) (p 1 (omega arith)) (p 2 (omega arith)) (p 3 (omega arith))) in
    let d : false ≡ equal f (text "-") = equal_apart f (text "-") (λ l p. g l (p 0 (omega arith))) in
    rw (← t, ← d, e)
