-- A line cut into its fields.
use mathlib.Core.Path.{◌≡◌, refl, sym, ap, subst, ◌∙◌}
use mathlib.Core.Bool.{Bool, true, false, cond, true≢false}
use mathlib.Core.List.{List, [], ◌∷◌, ◌++◌}
use Prim.Native.Nat.{ℕ, suc, ◌+◌, ◌<◌, ◌≤◌}
use native.Mathlib.Omega.{arith}
use borrow.Author.Tests.{ltb-false}
use lib.Dec.{eqb, ltb}
use Rattle.std.specs.Prelude.{Option, Some, None, MatchOption}
use Rattle.std.specs.List.{position, position_or_len}
use Rattle.std.proofs.lemmas.List.Recursion.{is_position_or_len}
use lib.ListN.{length, take, drop, length-drop}
use lib.Seq.{take-length, drop-drop}
use Rattle.text.specs.Decimal.{tabbed, joined}
use Rattle.text.specs.Bytes.{tab}
use Rattle.text.specs.Fields.{up_to, field_at, on_first, parts, fields}

-- ---- What stands before a separator

-- It is as long as the place of the first d, or as the text if there is none.
first_or_len : (d : ℕ) (l : List ℕ) → length (up_to d l) ≡ position_or_len (λ b. eqb b d) l
unfolding up_to
first_or_len d l = is_position_or_len (λ x. length (up_to d x)) (λ b. eqb b d) refl (λ b bs. counted (eqb b d) b (up_to d bs)) l
  where
    counted : (t : Bool) (b : ℕ) (x : List ℕ) → length (cond t [] (b ∷ x)) ≡ cond t 0 (1 + length x)
    counted true b x = refl
    counted false b x = omega arith

short : (t : Bool) (d b : ℕ) (bs : List ℕ) → length (up_to d bs) ≤ length bs → length (cond t [] (b ∷ up_to d bs)) ≤ suc (length bs)
short true d b bs h = omega arith
short false d b bs h = omega arith

-- The part before the first d is no longer than the text, and it is the text's beginning.
pub up_to_short : (d : ℕ) (l : List ℕ) → length (up_to d l) ≤ length l
unfolding up_to
up_to_short d [] = omega arith
up_to_short d (b ∷ bs) = short (eqb b d) d b bs (up_to_short d bs)

found : (t : Bool) (k n : ℕ) → ltb k n ≡ t → k ≤ n → MatchOption (cond t (Some k) None) (k ≡ n) (λ m. (k ≡ m) × (m ≤ n))
found true k n e h = (refl, h)
found false k n e h = omega (arith, ltb-false k n e)

-- The place of the first d is where it ends.
pub up_to_found : (d : ℕ) (l : List ℕ) (r : Option ℕ) → r ≡ position (λ b. eqb b d) l → MatchOption r (length (up_to d l) ≡ length l) (λ n. (length (up_to d l) ≡ n) × (n ≤ length l))
up_to_found d l r e =
    let f : List ℕ → ℕ → Type 0 = λ x k. MatchOption (cond (ltb k (length x)) (Some k) None) (length (up_to d x) ≡ length x) (λ n. (length (up_to d x) ≡ n) × (n ≤ length x)) in
    rw e (subst (f l) (first_or_len d l) (found _ (length (up_to d l)) (length l) refl (up_to_short d l)))

taken : (t : Bool) (d b : ℕ) (bs : List ℕ) → take (length (up_to d bs)) bs ≡ up_to d bs → take (length (cond t [] (b ∷ up_to d bs))) (b ∷ bs) ≡ cond t [] (b ∷ up_to d bs)
taken true d b bs h = refl
taken false d b bs h = ap (λ (l : List ℕ). b ∷ l) h

pub take_up_to : (d : ℕ) (l : List ℕ) → take (length (up_to d l)) l ≡ up_to d l
unfolding up_to
take_up_to d [] = refl
take_up_to d (b ∷ bs) = taken (eqb b d) d b bs (take_up_to d bs)

-- ---- The parts, by where the first of them ends

last : (t : Bool) (d b : ℕ) (bs : List ℕ) → (length (up_to d bs) ≡ length bs → parts d bs ≡ bs ∷ []) → length (cond t [] (b ∷ up_to d bs)) ≡ suc (length bs) → cond t ([] ∷ parts d bs) (on_first b (parts d bs)) ≡ (b ∷ bs) ∷ []
last true d b bs r g = absurd (omega arith)
last false d b bs r g = rw (r (omega arith))

-- If no d stands in the text, the text is its only part.
parts_last : (d : ℕ) (l : List ℕ) → length (up_to d l) ≡ length l → parts d l ≡ l ∷ []
unfolding up_to parts
parts_last d [] h = refl
parts_last d (b ∷ bs) h = last (eqb b d) d b bs (parts_last d bs) h

more : (t : Bool) (d b : ℕ) (bs : List ℕ) → (length (up_to d bs) < length bs → parts d bs ≡ up_to d bs ∷ parts d (drop (suc (length (up_to d bs))) bs)) → length (cond t [] (b ∷ up_to d bs)) < suc (length bs) → cond t ([] ∷ parts d bs) (on_first b (parts d bs)) ≡ cond t [] (b ∷ up_to d bs) ∷ parts d (drop (suc (length (cond t [] (b ∷ up_to d bs)))) (b ∷ bs))
more true d b bs r g = refl
more false d b bs r g = rw (r (omega arith))

-- If a d stands in the text, the part before it comes first, and the parts of what follows it come after.
parts_more : (d : ℕ) (l : List ℕ) → length (up_to d l) < length l → parts d l ≡ up_to d l ∷ parts d (drop (suc (length (up_to d l))) l)
unfolding up_to parts
parts_more d [] h = absurd (omega arith)
parts_more d (b ∷ bs) h = more (eqb b d) d b bs (parts_more d bs) h

first : (t : Bool) (d b : ℕ) (bs : List ℕ) → ((r : List (List ℕ)) × (parts d bs ≡ up_to d bs ∷ r)) → (r : List (List ℕ)) × (cond t ([] ∷ parts d bs) (on_first b (parts d bs)) ≡ cond t [] (b ∷ up_to d bs) ∷ r)
first true d b bs r = (parts d bs, refl)
first false d b bs r = (r.0, rw r.1)

-- In either case the part before the first d comes first.
parts_first : (d : ℕ) (l : List ℕ) → (r : List (List ℕ)) × (parts d l ≡ up_to d l ∷ r)
unfolding up_to parts
parts_first d [] = ([], refl)
parts_first d (b ∷ bs) = first (eqb b d) d b bs (parts_first d bs)

-- ---- The field f at a place is the first field from there on
module _ (l f : List ℕ) (at : ℕ) (i : f ≡ field_at l at) where
  -- It comes first.
  pub field_then : (r : List (List ℕ)) × (fields (drop at l) ≡ f ∷ r)
  unfolding fields field_at
  field_then = ((parts_first tab (drop at l)).0, rw i (parts_first tab (drop at l)).1)

  -- It is the only one if it ends where the line does.
  pub field_last : at ≤ length l → length l ≤ at + length f → fields (drop at l) ≡ f ∷ []
  unfolding fields field_at
  field_last h g =
      let n : length (up_to tab (drop at l)) ≡ length (drop at l) = omega (arith, ap length i, length-drop at l, up_to_short tab (drop at l)) in
      let u : drop at l ≡ f = sym (take-length (drop at l)) ∙ ap (λ (k : ℕ). take k (drop at l)) (sym n) ∙ take_up_to tab (drop at l) ∙ sym i in
      parts_last tab (drop at l) n ∙ ap (λ (x : List ℕ). x ∷ []) u

  -- Otherwise the fields from the place after its tab on come after it.
  pub field_more : at + length f < length l → fields (drop at l) ≡ f ∷ fields (drop (at + length f + 1) l)
  unfolding fields field_at
  field_more g =
      let n : length (up_to tab (drop at l)) < length (drop at l) = omega (arith, ap length i, length-drop at l) in
      let p : at + suc (length (up_to tab (drop at l))) ≡ at + length f + 1 = omega (arith, ap length i) in
      parts_more tab (drop at l) n ∙ rw (drop-drop (suc (length (up_to tab (drop at l)))) at l, p, ← i)

-- ---- Fields without a tab, joined and cut again, are the same fields

-- Returns true if the field has no tab.
abbrev pub tabless : List ℕ → Bool
tabless [] = true
tabless (b ∷ bs) = cond (eqb b tab) false (tabless bs)

-- States that no field of the list has a tab.
abbrev pub all_tabless : List (List ℕ) → Type 0
all_tabless [] = 0 ≤ 0
all_tabless (f ∷ fs) = (tabless f ≡ true) × all_tabless fs

step : (t : Bool) (b : ℕ) (f : List ℕ) (fs ps : List (List ℕ)) (u : Bool) → cond t false u ≡ true → (u ≡ true → ps ≡ f ∷ fs) → cond t ([] ∷ ps) (on_first b ps) ≡ (b ∷ f) ∷ fs
step true b f fs ps u h r = absurd (true≢false (sym h))
step false b f fs ps u h r = rw (r h)

-- A field before a tab, or before the end, is cut off whole.
before : (f rest : List ℕ) (fs : List (List ℕ)) → tabless f ≡ true → parts tab rest ≡ [] ∷ fs → parts tab (f ++ rest) ≡ f ∷ fs
unfolding parts
before [] rest fs h e = e
before (b ∷ f) rest fs h e = step (eqb b tab) b f fs (parts tab (f ++ rest)) (tabless f) h (λ g. before f rest fs g e)

cut_tabbed : (fs : List (List ℕ)) → all_tabless fs → parts tab (tabbed fs) ≡ [] ∷ fs
unfolding parts tabbed
cut_tabbed [] g = refl
cut_tabbed (f ∷ fs) g = ap (λ (x : List (List ℕ)). [] ∷ x) (before f (tabbed fs) fs g.0 (cut_tabbed fs g.1))

-- The fields of joined fields are these fields.
pub cut_joined : (f : List ℕ) (fs : List (List ℕ)) → tabless f ≡ true → all_tabless fs → fields (joined (f ∷ fs)) ≡ f ∷ fs
unfolding fields
cut_joined f fs h g = before f (tabbed fs) fs h (cut_tabbed fs g)
