-- The words are found by their letters.
use mathlib.Core.Path.{◌≡◌, refl, sym, ◌∙◌}
use mathlib.Core.Bool.{Bool, true, false, cond}
use mathlib.Core.List.{List, [], ◌∷◌}
use Prim.Native.Nat.{ℕ, ◌<◌}
use native.Mathlib.Omega.{arith}
use borrow.Author.Tests.{ltb-true}
use lib.Dec.{ltb}
use lib.ListN.{length, get_or}
use Rattle.std.specs.Prelude.{Option, None}
use Rattle.std.proofs.lemmas.Slice.Eq.{HasBytesAt, text_from_reads}
use Rattle.text.specs.Bytes.{equal}
use Rattle.text.proofs.Cut.{tabless}
use Rattle.text.proofs.Numbers.{equal_apart}
use Rattle.script.specs.Words.{Word, ma, mc, mr, md, ra, rc, rt, rr, wa, wc, wr, rd, cn, cd, cb, c1, ca, ce, spelled, Shape, shape, no_word, shape_of}
use Rattle.waits.specs.declared.outcome.Outcome.{Outcome}
use Rattle.detector.specs.declared.event.Event.{Event}

-- States that a word has two letters, which are bytes and the first of which is not 0, that they hold no tab, and that
-- they find the shape of this word.
pub record Spelled (w : Word) : Type 0 where
  pub two : length (spelled w) ≡ 2
  pub some : 0 < get_or (spelled w) 0 0
  pub first_small : get_or (spelled w) 0 0 < 256
  pub second_small : get_or (spelled w) 1 0 < 256
  pub no_tab : tabless (spelled w) ≡ true
  pub found : shape_of (spelled w) ≡ shape w

-- Returns these facts as one record.
abbrev known : {w : Word} → length (spelled w) ≡ 2 → ltb 0 (get_or (spelled w) 0 0) ≡ true → ltb (get_or (spelled w) 0 0) 256 ≡ true → ltb (get_or (spelled w) 1 0) 256 ≡ true → tabless (spelled w) ≡ true → shape_of (spelled w) ≡ shape w → Spelled w
known a b c d e f = record { two = a; some = ltb-true _ _ b; first_small = ltb-true _ _ c; second_small = ltb-true _ _ d; no_tab = e; found = f }

pub spelling : (w : Word) → Spelled w
unfolding shape_of equal
spelling ma = known refl refl refl refl refl refl
spelling mc = known refl refl refl refl refl refl
spelling mr = known refl refl refl refl refl refl
spelling md = known refl refl refl refl refl refl
spelling ra = known refl refl refl refl refl refl
spelling rc = known refl refl refl refl refl refl
spelling rt = known refl refl refl refl refl refl
spelling rr = known refl refl refl refl refl refl
spelling wa = known refl refl refl refl refl refl
spelling wc = known refl refl refl refl refl refl
spelling wr = known refl refl refl refl refl refl
spelling rd = known refl refl refl refl refl refl
spelling cn = known refl refl refl refl refl refl
spelling cd = known refl refl refl refl refl refl
spelling cb = known refl refl refl refl refl refl
spelling c1 = known refl refl refl refl refl refl
spelling ca = known refl refl refl refl refl refl
spelling ce = known refl refl refl refl refl refl

-- A field with the letters of a word has the shape of this word.
pub shape_at : (w : Word) (f : List ℕ) → length f ≡ 2 → HasBytesAt f 0 (spelled w) → shape_of f ≡ shape w
shape_at w f h g = rw (text_from_reads f (spelled w) (h ∙ sym (spelling w).two) g) (spelling w).found

-- A field that spells no word has the shape of no word.
pub shape_none : (f : List ℕ) → ((w : Word) → equal f (spelled w) ≡ false) → shape_of f ≡ no_word
unfolding shape_of
shape_none f h = rw (h ma, h mc, h mr, h md, h ra, h rc, h rt, h rr, h wa, h wc, h wr, h rd, h cn, h cd, h cb, h c1, h ca, h ce) refl

-- ---- A field that has the letters of no word that takes so many fields

-- States that the field has the two letters a and b.
pub record Letters (f : List ℕ) (a b : ℕ) : Type 0 where
  pub two : length f ≡ 2
  pub first : get_or f 0 0 ≡ a
  pub second : get_or f 1 0 ≡ b

differs : (f : List ℕ) (a b : ℕ) → (Letters f a b → ⊥) → equal f (a ∷ b ∷ []) ≡ false
differs f a b h = sym (equal_apart f (a ∷ b ∷ []) (λ l p. h (record { two = l; first = p 0 (omega arith); second = p 1 (omega arith) })))

-- A field of a shape that depends on a test.
pub one_pick : (t : Bool) (s r : Shape) (a : ℕ) → (cond t s r).one a ≡ cond t (s.one a) (r.one a)
one_pick true s r a = refl
one_pick false s r a = refl

pub two_pick : (t : Bool) (s r : Shape) (a b : ℕ) → (cond t s r).two a b ≡ cond t (s.two a b) (r.two a b)
two_pick true s r a b = refl
two_pick false s r a b = refl

pub three_pick : (t : Bool) (s r : Shape) (a b : ℕ) (o : Outcome) → (cond t s r).three a b o ≡ cond t (s.three a b o) (r.three a b o)
three_pick true s r a b o = refl
three_pick false s r a b o = refl

pub cond_same : (t : Bool) (x : Option Event) → cond t x x ≡ x
cond_same true x = refl
cond_same false x = refl

pub one_none : (f : List ℕ) (a : ℕ) → (Letters f 109 100 → ⊥) → (Letters f 114 100 → ⊥) → (Letters f 99 110 → ⊥) → (Letters f 99 100 → ⊥) → (Letters f 99 49 → ⊥) → (Letters f 99 97 → ⊥) → None ≡ (shape_of f).one a
unfolding shape_of
one_none f a h1 h2 h3 h4 h5 h6 = sym (simp (one_pick, cond_same, differs f 109 100 h1, differs f 114 100 h2, differs f 99 110 h3, differs f 99 100 h4, differs f 99 49 h5, differs f 99 97 h6))

pub two_none : (f : List ℕ) (a b : ℕ) → (Letters f 109 99 → ⊥) → (Letters f 109 114 → ⊥) → (Letters f 114 99 → ⊥) → (Letters f 114 114 → ⊥) → (Letters f 119 99 → ⊥) → (Letters f 119 114 → ⊥) → None ≡ (shape_of f).two a b
unfolding shape_of
two_none f a b h1 h2 h3 h4 h5 h6 = sym (simp (two_pick, cond_same, differs f 109 99 h1, differs f 109 114 h2, differs f 114 99 h3, differs f 114 114 h4, differs f 119 99 h5, differs f 119 114 h6))

pub three_none : (f : List ℕ) (a b : ℕ) (o : Outcome) → (Letters f 109 97 → ⊥) → (Letters f 114 97 → ⊥) → (Letters f 119 97 → ⊥) → (Letters f 114 116 → ⊥) → (Letters f 99 98 → ⊥) → (Letters f 99 101 → ⊥) → None ≡ (shape_of f).three a b o
unfolding shape_of
three_none f a b o h1 h2 h3 h4 h5 h6 = sym (simp (three_pick, cond_same, differs f 109 97 h1, differs f 114 97 h2, differs f 119 97 h3, differs f 114 116 h4, differs f 99 98 h5, differs f 99 101 h6))
