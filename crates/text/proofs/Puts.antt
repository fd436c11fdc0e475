-- Texts put one after the other.
use mathlib.Core.Path.{◌≡◌, refl, sym, ap, ◌∙◌}
use mathlib.Core.List.{List, [], ◌∷◌, ◌++◌, append_assoc, append-nil}
use Prim.Native.Nat.{ℕ, suc, ◌+◌, ◌<◌, ◌≤◌}
use native.Mathlib.Omega.{arith}
use native.Mathlib.Nat.{add-zero, add-suc, suc-add}
use lib.ListN.{length, take, drop, set, length-append}
use borrow.Rule.Slice.PartMut.{put_mid}
use lib.Seq.{sets, sets-eq, length-sets, set_comm, take-length}
use Rattle.std.proofs.lemmas.Slice.{put_mid-paste}
use Rattle.text.specs.Promises.{Room, Put, PutsCoincide}

-- Two results of one call that both keep the promise are the same.
pub puts_coincide : PutsCoincide
puts_coincide d at s e f r q p u = (p.bytes ∙ sym u.bytes, p.place ∙ sym u.place)

-- Two texts put one after the other are their join put at once.
pub sets_append : (l : List ℕ) (i : ℕ) (s t : List ℕ) → sets (sets l i s) (i + length s) t ≡ sets l i (s ++ t)
sets_append l i [] t = ap (λ (k : ℕ). sets l k t) (add-zero i)
sets_append l i (v ∷ s) t = ap (λ (k : ℕ). sets (sets (set l i v) (suc i) s) k t) (add-suc i (length s) ∙ sym (suc-add i (length s))) ∙ sets_append (set l i v) (suc i) s t

-- A byte before a text can be put before or after it.
pub set_sets : (l : List ℕ) (i j g : ℕ) (vs : List ℕ) → i < j → set (sets l j vs) i g ≡ sets (set l i g) j vs
set_sets l i j g [] h = refl
set_sets l i j g (v ∷ vs) h = set_sets (set l j v) i (suc j) g vs (omega arith) ∙ ap (λ (x : List ℕ). sets x (suc j) vs) (set_comm l j i v g (λ e. omega arith))

-- A text and then another are the two joined.
pub then : {d d' d'' s t : List ℕ} {at r r' : ℕ} → Put d at s d' r → Put d' r t d'' r' → Put d at (s ++ t) d'' r'
then {d} {d'} {d''} {s} {t} {at} {r} {r'} p q =
    record {
      bytes = q.bytes ∙ rw (p.bytes, p.place) (sets_append d at s t);
      place = q.place ∙ rw (p.place, length-append) (omega arith);
    }

-- A buffer keeps its length.
pub put_length : {d d' s : List ℕ} {at r : ℕ} → Put d at s d' r → length d' ≡ length d
put_length {d} {d'} {s} {at} {r} p = ap length p.bytes ∙ length-sets d at s

-- Every byte of the buffer is known: as it was up to the place, then the text, then as it was.
pub put_whole : {d d' s : List ℕ} {at r : ℕ} → Room d at s → Put d at s d' r → d' ≡ take at d ++ s ++ drop r d
put_whole {d} {d'} {s} {at} {r} h p = p.bytes ∙ sets-eq s d at h.fits ∙ ap (λ (k : ℕ). take at d ++ s ++ drop k d) (sym p.place)

-- After the first text there is room for the second.
pub room_then : {d d' s t : List ℕ} {at r : ℕ} → Put d at s d' r → Room d at (s ++ t) → Room d' r t
room_then {d} {d'} {s} {t} {at} {r} p h = record { fits = omega (arith, h.fits, p.place, put_length p, length-append s t) }

-- Where two texts fit, the first fits.
pub room_first : {d s : List ℕ} {at : ℕ} (t : List ℕ) → Room d at (s ++ t) → Room d at s
room_first {d} {s} {at} t h = record { fits = omega (arith, h.fits, length-append s t) }

-- A part of the buffer that is replaced by a text is the text put there.
pub put_mid_sets : (d : List ℕ) (at : ℕ) (s x : List ℕ) (k : ℕ) → at + length s ≤ length d → k ≡ length s → x ≡ s → put_mid at k d x ≡ sets d at s
put_mid_sets d at s x k h e g = put_mid-paste at k d x s (length s) g (sym e) refl ∙ sym (rw take-length (sets-eq s d at h))

-- States that a text w is put part by part and that rest is still to be put.
pub record Done (w rest : List ℕ) (d : List ℕ) (at : ℕ) (d' : List ℕ) (r : ℕ) : Type 0 where
  pub done : List ℕ
  pub whole : w ≡ done ++ rest
  pub put : Put d at done d' r

-- At the start all of the text is still to be put.
pub done_none : (w d : List ℕ) (at : ℕ) → Done w w d at d at
done_none w d at = record { done = []; whole = refl; put = record { bytes = refl; place = omega arith } }

-- Putting the next part leaves what comes after it.
pub done_more : {w part rest rest' d d' d'' : List ℕ} {at r r' : ℕ} → Done w rest d at d' r → rest ≡ part ++ rest' → Put d' r part d'' r' → Done w rest' d at d'' r'
done_more {w} {part} {rest} {rest'} p e q = record { done = p.done ++ part; whole = p.whole ∙ rw (e, append_assoc); put = then p.put q }

-- When nothing is left, the whole text is put.
pub done_all : {w rest d d' : List ℕ} {at r : ℕ} → Done w rest d at d' r → rest ≡ [] → Put d at w d' r
done_all {w} p e = let h : w ≡ p.done = p.whole ∙ rw (e, append-nil) in rw h p.put

-- There is room for the next part.
pub done_room : {w part rest d d' : List ℕ} {at r : ℕ} (rest' : List ℕ) → Done w rest d at d' r → rest ≡ part ++ rest' → Room d at w → Room d' r part
done_room rest' p e h = room_first rest' (rw e at (room_then p.put (rw p.whole at h)))
