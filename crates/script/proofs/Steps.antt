-- Reading goes field by field: what the definitions make of the fields from a place on follows from the field there.
use mathlib.Core.Path.{◌≡◌, refl, sym, ◌∙◌}
use mathlib.Core.Bool.{Bool, true, false}
use Rattle.std.specs.Prelude.{Some, None}
use mathlib.Core.List.{List}
use Prim.Native.Nat.{ℕ, ◌+◌, ◌<◌, ◌≤◌}
use native.Mathlib.Omega.{arith}
use borrow.Author.Tests.{leb-true, leb-false, le-leb, lt-leb}
use lib.Dec.{leb}
use lib.ListN.{length, take, drop, length-take}
use lib.Seq.{take_all}
use Rattle.text.specs.Fields.{fields, field_at}
use Rattle.text.specs.Numbers.{number_of}
use Rattle.script.specs.Outcomes.{outcome_of}
use Rattle.script.specs.Words.{Shape, shape_of}
use Rattle.script.specs.Lines.{after_two, after_one, after_word, line_of}
use Rattle.waits.specs.declared.outcome.Outcome.{Outcome}
use Rattle.text.proofs.Cut.{field_then, field_last, field_more}

-- Here f is the field that starts at `at` in the line l, after a word of shape s and the numbers read so far.
module _ (s : Shape) (l f : List ℕ) (at : ℕ) (i : f ≡ field_at l at) (a : ℕ) where
  pub word_bad : number_of f ≡ None → None ≡ after_word s (fields (drop at l))
  unfolding after_word
  word_bad e = rw ((field_then l f at i).1, e)

  pub word_last : number_of f ≡ Some a → at ≤ length l → length l ≤ at + length f → s.one a ≡ after_word s (fields (drop at l))
  unfolding after_word after_one
  word_last e h g = rw (field_last l f at i h g, e)

  pub word_more : number_of f ≡ Some a → at + length f < length l → after_one s (fields (drop (at + length f + 1) l)) a ≡ after_word s (fields (drop at l))
  unfolding after_word
  word_more e g = rw (field_more l f at i g, e)

  module _ (b : ℕ) where
    pub one_bad : number_of f ≡ None → None ≡ after_one s (fields (drop at l)) a
    unfolding after_one
    one_bad e = rw ((field_then l f at i).1, e)

    pub one_last : number_of f ≡ Some b → at ≤ length l → length l ≤ at + length f → s.two a b ≡ after_one s (fields (drop at l)) a
    unfolding after_one after_two
    one_last e h g = rw (field_last l f at i h g, e)

    pub one_more : number_of f ≡ Some b → at + length f < length l → after_two s (fields (drop (at + length f + 1) l)) a b ≡ after_one s (fields (drop at l)) a
    unfolding after_one
    one_more e g = rw (field_more l f at i g, e)

    pub two_many : at + length f < length l → None ≡ after_two s (fields (drop at l)) a b
    unfolding after_two
    two_many g = rw (field_more l f at i g, (field_then l (field_at l (at + length f + 1)) (at + length f + 1) refl).1)

    pub two_bad : outcome_of f ≡ None → at ≤ length l → length l ≤ at + length f → None ≡ after_two s (fields (drop at l)) a b
    unfolding after_two
    two_bad e h g = rw (field_last l f at i h g, e)

    pub two_is : (o : Outcome) → outcome_of f ≡ Some o → at ≤ length l → length l ≤ at + length f → s.three a b o ≡ after_two s (fields (drop at l)) a b
    unfolding after_two
    two_is o e h g = rw (field_last l f at i h g, e)

-- ---- A whole line

pub line_long : (l : List ℕ) → 40 < length l → None ≡ line_of l
unfolding line_of
line_long l h = rw (lt-leb (length l) 40 h)

module _ (l f : List ℕ) (i : f ≡ field_at l 0) (h : length l ≤ 40) where
  pub line_word : length l ≤ length f → None ≡ line_of l
  unfolding line_of after_word
  line_word g = rw (le-leb (length l) 40 h, field_last l f 0 i (omega arith) (omega arith))

  pub line_fields : length f < length l → after_word (shape_of f) (fields (drop (length f + 1) l)) ≡ line_of l
  unfolding line_of
  line_fields g =
      let e : 0 + length f + 1 ≡ length f + 1 = omega arith in
      rw (le-leb (length l) 40 h, field_more l f 0 i (omega arith), e)

-- ---- A line of which only the first 41 bytes are kept reads as the whole line

cut : (t : Bool) (p : List ℕ) → leb (length p) 41 ≡ t → line_of (take 41 p) ≡ line_of p
cut true p e = rw (take_all 41 p (leb-true (length p) 41 e))
cut false p e =
    let h : 41 < length p = leb-false (length p) 41 e in
    sym (line_long (take 41 p) (omega (arith, length-take 41 p))) ∙ line_long p (omega arith)

pub line_cut : (p : List ℕ) → line_of (take 41 p) ≡ line_of p
line_cut p = cut (leb (length p) 41) p refl
