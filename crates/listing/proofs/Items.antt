-- The line of a table is put item by item.
use mathlib.Core.Path.{◌≡◌, refl, sym, ap, ◌∙◌}
use mathlib.Core.Bool.{Bool, true, false}
use mathlib.Core.List.{List, [], ◌∷◌, ◌++◌, map, append_assoc, append-nil}
use Prim.Native.Nat.{ℕ, suc, ◌+◌, ◌-◌, ◌<◌, ◌≤◌}
use native.Mathlib.Omega.{arith}
use native.Mathlib.Numerals.{add-one}
use borrow.Author.Tests.{eq-eqb, ne_eqb}
use lib.Dec.{eqb}
use lib.ListN.{length, drop, get_or, length-append, drop_of_length-le, get_or-map, length-map}
use lib.Seq.{drop-cons}
use Rattle.std.proofs.lemmas.List.{get_or_default}
use Rattle.graph.specs.Search.{row}
use Rattle.text.specs.Bytes.{text}
use Rattle.text.specs.Decimal.{with_tab, tabbed}
use Rattle.text.specs.Promises.{Room, Put}
use Rattle.text.proofs.Puts.{then, room_then, room_first}
use Rattle.detector.specs.Tables.{no_pair}
use Rattle.detector.specs.State.{pairs_of, blank_queue}
use Rattle.detector.specs.declared.state.Pair.{Pair}
use Rattle.detector.specs.declared.state.Queue.{Queue}
use Rattle.listing.specs.Listing.{table_text, along, below, pair_item, queue_items}
use Rattle.listing.specs.Code.{line_begun, opening, ending, more}
use Rattle.listing.specs.Promises.{Begun, Fits, Grows, Roomy, Lists}
use Rattle.listing.specs.declared.line.Line.{Line}

-- ---- Texts that are put one after the other

grows_none : {l : Line} → Grows l [] l
grows_none = record { put = record { bytes = refl; place = omega arith }; same = refl; start = refl; name = refl }

pub grows_then : {l m n : Line} {s t : List ℕ} → Grows l s m → Grows m t n → Grows l (s ++ t) n
grows_then g h = record { put = then g.put h.put; same = h.same ∙ g.same; start = h.start ∙ g.start; name = h.name ∙ g.name }

pub fits_then : {l m : Line} {s t : List ℕ} → Grows l s m → Fits l (s ++ t) → Fits m t
fits_then g w = record { room = room_then g.put w.room }

pub fits_first : {l : Line} {s : List ℕ} (t : List ℕ) → Fits l (s ++ t) → Fits l s
fits_first t w = record { room = room_first t w.room }

-- The caller's buffer is what the line leaves of it.
pub lent : {d d' e s : List ℕ} {at r : ℕ} → d' ≡ e → Put d at s e r → Put d at s d' r
lent q p = rw q p

-- ---- What stands before an item, and one item

pub put_none : (d : List ℕ) (at : ℕ) → Put d at [] d at
put_none d at = record { bytes = refl; place = omega arith }

-- Returns the line's beginning with the tab before the first item.
abbrev pub headed : List ℕ → List ℕ
headed name = text "table\t" ++ (name ++ text "\t")

new_is : (name : List ℕ) → opening true name ≡ headed name
unfolding line_begun
new_is name = append_assoc (text "table\t") name (text "\t")

pub opening_new : {at start : ℕ} (name : List ℕ) → at ≡ start → opening (eqb at start) name ≡ headed name
opening_new {at} {start} name e = rw (eq-eqb at start e) (new_is name)

pub opening_old : {at start : ℕ} (name : List ℕ) → (at ≡ start → ⊥) → opening (eqb at start) name ≡ text "\t"
unfolding line_begun
opening_old {at} {start} name e = rw (ne_eqb at start e) refl

pub opened : (new : Bool) (name x : List ℕ) → more new name (x ∷ []) ≡ opening new name ++ x
unfolding more tabbed
opened new name x = rw append-nil (sym (append_assoc (line_begun new name) (text "\t") x))

pub one_room : {l : Line} {x : List ℕ} → Roomy l (x ∷ []) → Fits l (opening (eqb l.at l.start) l.name.now ++ x)
one_room h = rw opened at h.fits

pub one_lists : {l m : Line} {x : List ℕ} → Grows l (opening (eqb l.at l.start) l.name.now ++ x) m → Lists l (x ∷ []) m
one_lists p = record { grows = rw opened p }

pub lists_none : {l : Line} → Lists l [] l
unfolding more
lists_none = record { grows = grows_none }

-- ---- Items, and others after them

pub tabbed_append : (xs ys : List (List ℕ)) → tabbed (xs ++ ys) ≡ tabbed xs ++ tabbed ys
unfolding tabbed
tabbed_append [] ys = refl
tabbed_append (x ∷ xs) ys = ap (λ (t : List ℕ). with_tab x ++ t) (tabbed_append xs ys) ∙ sym (append_assoc (with_tab x) (tabbed xs) (tabbed ys))

-- Returns true if nothing of the line has been put yet after these items.
abbrev still : Bool → List (List ℕ) → Bool
still new [] = new
still new (x ∷ xs) = false

more_append : (new : Bool) (name : List ℕ) (xs ys : List (List ℕ)) → more new name (xs ++ ys) ≡ more new name xs ++ more (still new xs) name ys
unfolding more line_begun
more_append new name [] ys = refl
more_append new name (x ∷ xs) [] = ap (more new name) (append-nil (x ∷ xs)) ∙ sym (append-nil (more new name (x ∷ xs)))
more_append new name (x ∷ xs) (y ∷ ys) = ap (λ (t : List ℕ). line_begun new name ++ t) (tabbed_append (x ∷ xs) (y ∷ ys)) ∙ sym (append_assoc (line_begun new name) (tabbed (x ∷ xs)) (tabbed (y ∷ ys)))

begun_still : (start at r : ℕ) (name : List ℕ) (xs : List (List ℕ)) → start ≤ at → r ≡ at + length (more (eqb at start) name xs) → eqb r start ≡ still (eqb at start) xs
unfolding more tabbed
begun_still start at r name [] h e = ap (λ (k : ℕ). eqb k start) (let z : r ≡ at = omega arith in z)
begun_still start at r name (x ∷ xs) h e =
    ne_eqb r start (λ q. omega (arith, length-append (line_begun (eqb at start) name) (tabbed (x ∷ xs))))

module _ {l m : Line} {xs : List (List ℕ)} (h : l.start ≤ l.at) (p : Lists l xs m) where
  both : (ys : List (List ℕ)) → more (eqb l.at l.start) l.name.now (xs ++ ys) ≡ more (eqb l.at l.start) l.name.now xs ++ more (eqb m.at m.start) m.name.now ys
  both ys =
      rw (p.grows.start, p.grows.name)
      (more_append (eqb l.at l.start) l.name.now xs ys ∙ ap (λ (b : Bool). more (eqb l.at l.start) l.name.now xs ++ more b l.name.now ys) (sym (begun_still l.start l.at m.at l.name.now xs h p.grows.put.place)))

  lists_then : {ys : List (List ℕ)} {n : Line} → Lists m ys n → Lists l (xs ++ ys) n
  lists_then {ys} q = record { grows = rw (both ys) (grows_then p.grows q.grows) }

  lists_room : (ys : List (List ℕ)) → Roomy l (xs ++ ys) → Roomy m ys
  lists_room ys w = record { fits = fits_then p.grows (rw (both ys) at w.fits) }

  lists_on : m.start ≤ m.at
  lists_on = omega (arith, p.grows.put.place, p.grows.start)

roomy_first : {l : Line} (xs ys : List (List ℕ)) → Roomy l (xs ++ ys) → Roomy l xs
roomy_first {l} xs ys w = record { fits = fits_first _ (rw (more_append (eqb l.at l.start) l.name.now xs ys) at w.fits) }

-- ---- A loop over items

-- States that of all the items those in `rest` are still to be put.
pub record Partly (l : Line) (all rest : List (List ℕ)) (m : Line) : Type 0 where
  pub done : List (List ℕ)
  pub whole : all ≡ done ++ rest
  pub put : Lists l done m
  pub from : l.start ≤ l.at
  pub room : Roomy l all

pub partly_none : {l : Line} {all : List (List ℕ)} → l.start ≤ l.at → Roomy l all → Partly l all all l
partly_none h w = record { done = []; whole = refl; put = lists_none; from = h; room = w }

module _ {l m : Line} {all rest : List (List ℕ)} (p : Partly l all rest m) where
  pub partly_on : m.start ≤ m.at
  partly_on = lists_on p.from p.put

  pub partly_room : {part : List (List ℕ)} (rest' : List (List ℕ)) → rest ≡ part ++ rest' → Roomy m part
  partly_room {part} rest' e = roomy_first part rest' (rw e at (lists_room p.from p.put rest (rw p.whole at p.room)))

  pub partly_more : {part rest' : List (List ℕ)} {n : Line} → rest ≡ part ++ rest' → Lists m part n → Partly l all rest' n
  partly_more {part} {rest'} e q =
      record {
        done = p.done ++ part;
        whole = p.whole ∙ rw (e, append_assoc);
        put = lists_then p.from p.put q;
        from = p.from;
        room = p.room;
      }

  pub partly_all : rest ≡ [] → Lists l all m
  partly_all e = let h : all ≡ p.done = p.whole ∙ rw (e, append-nil) in rw h p.put

-- ---- A whole line

whole_line : (name : List ℕ) (xs : List (List ℕ)) → table_text name xs ≡ more true name xs ++ ending (still true xs)
unfolding table_text more line_begun tabbed
whole_line name [] = refl
whole_line name (x ∷ xs) = simp append_assoc

module _ {d : List ℕ} {at : ℕ} {name : List ℕ} {l : Line} (b : Begun d at name l) where
  pub begun_from : l.start ≤ l.at
  begun_from = omega (arith, b.start, b.place)

  new : eqb l.at l.start ≡ true
  new = eq-eqb l.at l.start (b.place ∙ sym b.start)

  pub table_room : {xs : List (List ℕ)} → Room d at (table_text name xs) → Roomy l xs
  table_room {xs} w = record { fits = record { room = rw (new, b.buffer, b.place, b.named) (room_first _ (rw (whole_line name xs) at w)) } }

  module _ {m : Line} {xs : List (List ℕ)} (p : Lists l xs m) where
    begun_put : Put d at (more true name xs) m.out.now m.at
    begun_put = rw (new, b.buffer, b.place, b.named) at p.grows.put

    closes : table_text name xs ≡ more true name xs ++ ending (eqb m.at m.start)
    closes = rw (p.grows.start, begun_still l.start l.at m.at l.name.now xs begun_from p.grows.put.place, new) (whole_line name xs)

    pub close_room : Room d at (table_text name xs) → Fits m (ending (eqb m.at m.start))
    close_room w = record { room = room_then begun_put (rw closes at w) }

    pub closed : {d' : List ℕ} {r : ℕ} → Put m.out.now m.at (ending (eqb m.at m.start)) d' r → Put d at (table_text name xs) d' r
    closed q = rw closes (then begun_put q)

-- ---- The items of a table, cell by cell

pub along_more : (f : ℕ → List (List ℕ)) (i n : ℕ) → i < n → along f i (n - i) ≡ f i ++ along f (i + 1) (n - (i + 1))
unfolding along
along_more f i n h =
    let e : n - i ≡ suc (n - (i + 1)) = omega arith in
    ap (along f i) e ∙ ap (λ (k : ℕ). f i ++ along f k (n - (i + 1))) (let s : suc i ≡ i + 1 = omega arith in s)

pub along_none : (f : ℕ → List (List ℕ)) (i n : ℕ) → n ≤ i → along f i (n - i) ≡ []
unfolding along
along_none f i n h = let e : n - i ≡ 0 = omega arith in ap (along f i) e

pub partly_start : {l : Line} {all : List (List ℕ)} (f : ℕ → List (List ℕ)) (n : ℕ) → all ≡ below n f → l.start ≤ l.at → Roomy l all → Partly l all (along f 0 (n - 0)) l
partly_start f n e h w = let z : n - 0 ≡ n = omega arith in rw (z, ← e) (partly_none h w)

-- The set in a cell of a table of sets is the mask of the cell.
pub row_mask : {S : Type 0} (mask : S → ℕ) (rows : List S) (i : ℕ) (m : S) → i < length rows → m ≡ get_or rows i m → row (map mask rows) i ≡ mask m
row_mask mask rows i m h e = get_or_default (map mask rows) i 0 (mask m) (omega (arith, length-map rows mask)) ∙ get_or-map mask rows i m ∙ sym (ap mask e)

-- ---- Queues

pub queue_more : (c k : ℕ) (ps : List Pair) → k < length ps → queue_items c (drop k ps) ≡ (pair_item c (get_or ps k no_pair) ∷ []) ++ queue_items c (drop (k + 1) ps)
unfolding queue_items
queue_more c k ps h = ap (map (pair_item c)) (drop-cons ps k no_pair h ∙ ap (λ (i : ℕ). get_or ps k no_pair ∷ drop i ps) (sym (add-one k)))

pub queue_none : (c k : ℕ) (ps : List Pair) → length ps ≤ k → queue_items c (drop k ps) ≡ []
unfolding queue_items
queue_none c k ps h = ap (map (pair_item c)) (drop_of_length-le ps h)

-- Returns the items of the queue of the condvar c.
abbrev pub queue_at : List Queue → ℕ → List (List ℕ)
queue_at qs c = queue_items c (get_or (map pairs_of qs) c [])

pub queues_more : (qs : List Queue) (c n : ℕ) → c < n → along (queue_at qs) c (n - c) ≡ queue_items c (pairs_of (get_or qs c blank_queue)) ++ along (queue_at qs) (c + 1) (n - (c + 1))
queues_more qs c n h = along_more (queue_at qs) c n h ∙ ap (λ (q : List Pair). queue_items c q ++ along (queue_at qs) (c + 1) (n - (c + 1))) (get_or-map pairs_of qs c blank_queue)
