-- What is printed for a part of a chunk. With tables at most one line ends in it, and its tables come after its answer.
use mathlib.Core.Path.{◌≡◌, refl, sym, ap, ap₂, ◌∙◌, subst}
use mathlib.Core.Logic.{◌⊎◌, inl, inr}
use mathlib.Core.Bool.{Bool, true, false, false≢true, cond}
use mathlib.Core.List.{List, [], ◌∷◌, ◌++◌, append-nil}
use Prim.Native.Nat.{ℕ, suc, ◌+◌, ◌<◌, ◌≤◌}
use native.Mathlib.Omega.{arith}
use borrow.Author.Tests.{lt-ltb, le-ltb}
use lib.Dec.{eqb, ltb}
use lib.ListN.{length, take, drop}
use lib.Seq.{take-take, length-take-le}
use Rattle.text.specs.Promises.{Put}
use Rattle.answers.specs.Answers.{answer_bytes}
use Rattle.text.proofs.Puts.{then}
use Rattle.detector.specs.Tables.{Tables}
use Rattle.detector.specs.State.{tables as tables-of}
use Rattle.listing.specs.Listing.{tables_text}
use Rattle.listing.specs.Code.{tables_bytes}
use Rattle.text.specs.Bytes.{line_feed}
use Rattle.transcript.specs.Replay.{Run, limit, after, line_text, last_text}
use Rattle.transcript.specs.Chunks.{Mid, mid, step, prints_byte, fed, prints, ends, last_line}
use Rattle.transcript.specs.Code.{run_of, mid_of, between}
use Rattle.transcript.specs.Promises.{Moves, Feeds}
use Rattle.transcript.specs.declared.run.Run as code
use Rattle.transcript.specs.declared.run.Turned.{Turned}
use Rattle.text.specs.Fields.{up_to}
use Rattle.transcript.proofs.Turning.{piece, piece_feed}
use Rattle.transcript.proofs.Chunk.{between_on}
use Rattle.transcript.proofs.Feeding.{feeds_move, ends_closed}
use Rattle.runner.specs.Shown.{line_shown, shown_of, shows_byte, shows, closes, OpenShown}
use Rattle.runner.specs.Code.{out_bytes, prints_with, ends_with}
use Rattle.runner.specs.Promises.{line_ends, Part, Puts}

-- ---- A byte ends a line that is read, or it ends none

-- States that the byte b ends no line that is read.
record Idle (m : Mid) (b : ℕ) : Type 0 where
  run : (step m b).run ≡ m.run
  prints : prints_byte m b ≡ []
  shows : shows_byte m b ≡ []

-- States that the byte b ends a line that is read.
record Ends (m : Mid) (b : ℕ) : Type 0 where
  feed : eqb b line_feed ≡ true
  run : (step m b).run ≡ after m.run m.part
  prints : prints_byte m b ≡ line_text m.run m.part
  shows : shows_byte m b ≡ line_shown m.run m.part

byte_pick : {X : Type 0} (free feed : Bool) (m : Mid) (b : ℕ) → ltb m.run.lines limit ≡ free → eqb b line_feed ≡ feed → (Idle m b → X) → (Ends m b → X) → X
unfolding step prints_byte shows_byte
byte_pick false feed m b e f i l = i (record { run = rw e refl; prints = rw e refl; shows = rw e refl })
byte_pick true false m b e f i l = i (record { run = rw (e, f) refl; prints = rw (e, f) refl; shows = rw (e, f) refl })
byte_pick true true m b e f i l = l (record { feed = f; run = rw (e, f) refl; prints = rw (e, f) refl; shows = rw (e, f) refl })

-- One of the two holds of every byte.
byte : {X : Type 0} (m : Mid) (b : ℕ) → (Idle m b → X) → (Ends m b → X) → X
byte m b = byte_pick (ltb m.run.lines limit) (eqb b line_feed) m b refl refl

idle_lines : {m : Mid} {b : ℕ} → Idle m b → (step m b).run.lines ≡ m.run.lines
idle_lines i = ap (λ (r : Run). r.lines) i.run

ends_lines : {m : Mid} {b : ℕ} → Ends m b → (step m b).run.lines ≡ m.run.lines + 1
unfolding after
ends_lines l = ap (λ (r : Run). r.lines) l.run

-- ---- How many lines are read

lines_up : (m : Mid) (t : List ℕ) → m.run.lines ≤ (fed m t).run.lines
unfolding fed
lines_up m [] = omega arith
lines_up m (b ∷ t) =
    let n : (step m b).run.lines ≤ (fed (step m b) t).run.lines = lines_up (step m b) t in
    byte m b (λ i. omega (arith, n, idle_lines i)) (λ l. omega (arith, n, ends_lines l))

line_ends_pick : (f : Bool) (b : ℕ) (t : List ℕ) → eqb b line_feed ≡ f → line_ends t ≤ line_ends (b ∷ t)
unfolding line_ends
line_ends_pick true b t e = rw e (omega arith)
line_ends_pick false b t e = rw e (omega arith)

line_ends_feed : (b : ℕ) (t : List ℕ) → eqb b line_feed ≡ true → line_ends (b ∷ t) ≡ suc (line_ends t)
unfolding line_ends
line_ends_feed b t e = rw e refl

lines_few : (m : Mid) (t : List ℕ) → (fed m t).run.lines ≤ m.run.lines + line_ends t
unfolding fed
lines_few m [] = omega arith
lines_few m (b ∷ t) =
    let n : (fed (step m b) t).run.lines ≤ (step m b).run.lines + line_ends t = lines_few (step m b) t in
    byte m b
    (λ i. omega (arith, n, idle_lines i, line_ends_pick (eqb b line_feed) b t refl))
    (λ l. omega (arith, n, ends_lines l, line_ends_feed b t l.feed))

line_ends_first : (a b : List ℕ) → line_ends a ≤ line_ends (a ++ b)
unfolding line_ends
line_ends_first [] b = omega arith
line_ends_first (x ∷ a) b = go (eqb x line_feed) (line_ends_first a b)
  where
    go : (f : Bool) → line_ends a ≤ line_ends (a ++ b) → cond f (suc (line_ends a)) (line_ends a) ≤ cond f (suc (line_ends (a ++ b))) (line_ends (a ++ b))
    go true h = omega arith
    go false h = h

-- ---- How many lines end in a part

pub line_ends_more : (a : List ℕ) (b : ℕ) → line_ends (a ++ (b ∷ [])) ≡ line_ends a + line_ends (b ∷ [])
unfolding line_ends
line_ends_more [] b = omega arith
line_ends_more (x ∷ a) b = go (eqb x line_feed) (line_ends_more a b)
  where
    go : (f : Bool) → line_ends (a ++ (b ∷ [])) ≡ line_ends a + line_ends (b ∷ []) → cond f (suc (line_ends (a ++ (b ∷ [])))) (line_ends (a ++ (b ∷ []))) ≡ cond f (suc (line_ends a)) (line_ends a) + line_ends (b ∷ [])
    go true h = omega arith
    go false h = h

line_ends_byte : (b : ℕ) → line_ends (b ∷ []) ≤ 1
unfolding line_ends
line_ends_byte b = go (eqb b line_feed)
  where
    go : (f : Bool) → cond f 1 0 ≤ 1
    go true = omega arith
    go false = omega arith

-- No line ends before the first line feed.
line_ends_before : (y : List ℕ) → line_ends (up_to line_feed y) ≡ 0
unfolding line_ends up_to
line_ends_before [] = refl
line_ends_before (b ∷ y) = go (eqb b line_feed) refl (line_ends_before y)
  where
    go : (f : Bool) → eqb b line_feed ≡ f → line_ends (up_to line_feed y) ≡ 0 → line_ends (cond f [] (b ∷ up_to line_feed y)) ≡ 0
    go true e h = refl
    go false e h = rw e h

-- The part ends after the next line feed, or at the chunk's end.
module _ {tables : Bool} {chunk : List ℕ} {from e : ℕ} (h : from < length chunk) (q : e ≡ from + length (up_to line_feed (drop from chunk))) where
  pub line_part : e < length chunk → Part tables chunk from (e + 1)
  line_part w =
      record {
        onward = omega (arith, q);
        inside = omega arith;
        one = λ _. omega (
          arith,
          ap line_ends (piece_feed from e chunk (omega arith) q w),
          line_ends_more (up_to line_feed (drop from chunk)) line_feed,
          line_ends_before (drop from chunk),
          line_ends_byte line_feed,
        );
      }

  pub rest_part : e ≡ length chunk → Part tables chunk from e
  rest_part w = record { onward = omega arith; inside = omega arith; one = λ _. omega (arith, ap line_ends (piece from e chunk (omega arith) q), line_ends_before (drop from chunk)) }

-- ---- What is printed where no line is read, and where one is

-- States that the bytes t change no tables and print nothing.
record Quiet (m : Mid) (t : List ℕ) : Type 0 where
  run : (fed m t).run ≡ m.run
  prints : prints m t ≡ []
  shows : shows m t ≡ []

quiet : (m : Mid) (t : List ℕ) → (fed m t).run.lines ≡ m.run.lines → Quiet m t
unfolding fed prints shows
quiet m [] e = record { run = refl; prints = refl; shows = refl }
quiet m (b ∷ t) e = byte m b (λ i. go i (quiet (step m b) t (e ∙ sym (idle_lines i)))) (λ l. absurd (omega (arith, lines_up (step m b) t, ends_lines l)))
  where
    go : Idle m b → Quiet (step m b) t → Quiet m (b ∷ t)
    go i q =
        record {
          run = q.run ∙ i.run;
          prints = ap₂ (λ (x y : List ℕ). x ++ y) i.prints q.prints;
          shows = ap₂ (λ (x y : List ℕ). x ++ y) i.shows q.shows;
        }

-- Where one line is read, tables prints what replay prints, and then the tables.
single : (m : Mid) (t : List ℕ) → (fed m t).run.lines ≡ m.run.lines + 1 → shows m t ≡ prints m t ++ tables_text (fed m t).run.tables
unfolding fed prints shows line_shown
single m [] e = absurd (omega arith)
single m (b ∷ t) e = byte m b
    (λ i. rw (i.prints, i.shows) (single (step m b) t (e ∙ ap (λ (n : ℕ). n + 1) (sym (idle_lines i)))))
    (λ l. go l (quiet (step m b) t (e ∙ sym (ends_lines l))))
  where
    go : Ends m b → Quiet (step m b) t → shows_byte m b ++ shows (step m b) t ≡ (prints_byte m b ++ prints (step m b) t) ++ tables_text (fed (step m b) t).run.tables
    go l q =
        rw (l.prints, l.shows, q.prints, q.shows, q.run, l.run)
        (append-nil (line_shown m.run m.part) ∙ ap (λ (x : List ℕ). x ++ tables_text (after m.run m.part).tables) (sym (append-nil (line_text m.run m.part))))

-- ---- A call of `feed_within` over a part

-- Without tables the part is the rest of the chunk.
pub whole_part : {tables : Bool} (chunk : List ℕ) (from : ℕ) → tables ≡ false → from < length chunk → Part tables chunk from (length chunk)
whole_part chunk from e h = record { onward = h; inside = omega arith; one = λ t. absurd (false≢true (sym e ∙ t)) }

module _ {tables : Bool} {r : code.Run} {carry chunk : List ℕ} {from e : ℕ} {out : List ℕ} {r' : code.Run} {t : Turned} {carry' out' : List ℕ} (o : Part tables chunk from e) (s : Feeds r carry (take e chunk) from out 0 r' t carry' out') (more : r.lines < limit) (room : length out ≡ out_bytes) where
  ahead : t.next ≤ e
  ahead = omega (arith, s.moves.inside, length-take-le e chunk o.inside)

  onward : from < t.next
  onward = feeds_move s (omega (arith, o.onward, length-take-le e chunk o.inside)) more (omega (arith, room))

  abbrev part : List ℕ
  part = between from t.next chunk

  cut : between from t.next (take e chunk) ≡ part
  cut = ap (drop from) (take-take t.next e chunk ahead)

  moves : Moves r carry chunk from t.next r' carry'
  moves = record { kept = s.moves.kept; onward = s.moves.onward; inside = omega (arith, ahead, o.inside); after = s.moves.after ∙ ap (fed (mid_of r carry)) cut }

  put : Put out 0 (prints (mid_of r carry) part) out' t.at
  put = subst (λ (z : List ℕ). Put out 0 (prints (mid_of r carry) z) out' t.at) cut s.text

  -- Without tables, and with tables where no line ended, the text of `feed_within` is all that is put.
  pub puts_plain : tables ≡ false → Puts tables r carry chunk from out r' t carry' out'
  puts_plain plain = record { moves = moves; onward = onward; text = subst (λ (z : Bool). Put out 0 (prints_with z (mid_of r carry) part) out' t.at) (sym plain) put; place = omega (arith, s.place, room) }

  module _ (asked : tables ≡ true) where
    few : line_ends part ≤ 1
    few = omega (arith, o.one asked, line_ends_first part (between t.next e chunk), ap line_ends (between_on from t.next e chunk moves.onward ahead o.inside))

    count : r'.lines ≡ (fed (mid_of r carry) part).run.lines
    count = ap (λ (m : Mid). m.run.lines) moves.after

    grown : r'.lines ≤ r.lines + 1
    grown = omega (arith, count, few, lines_few (mid_of r carry) part)

    pub short : t.at ≤ answer_bytes
    short = omega (arith, s.short, grown)

    pub puts_none : r'.lines ≡ r.lines → Puts tables r carry chunk from out r' t carry' out'
    puts_none same =
        let q : Quiet (mid_of r carry) part = quiet (mid_of r carry) part (sym count ∙ same) in
        let text : Put out 0 (shows (mid_of r carry) part) out' t.at = subst (λ (z : List ℕ). Put out 0 z out' t.at) (q.prints ∙ sym q.shows) put in
        record { moves = moves; onward = onward; text = subst (λ (z : Bool). Put out 0 (prints_with z (mid_of r carry) part) out' t.at) (sym asked) text; place = omega (arith, short) }

    -- With tables, where a line ended, its tables are put after its answer.
    pub puts_tables : (out'' : List ℕ) (to : ℕ) → (r'.lines ≡ r.lines → ⊥) → Put out' t.at (tables_text (tables-of r'.detector)) out'' to → to ≤ t.at + tables_bytes
        → Puts tables r carry chunk from out r' (record { next = t.next; at = to }) carry' out''
    puts_tables out'' to other p w =
        let one : (fed (mid_of r carry) part).run.lines ≡ r.lines + 1 = omega (arith, other, count, grown, lines_up (mid_of r carry) part) in
        let state : tables-of r'.detector ≡ (fed (mid_of r carry) part).run.tables = ap (λ (m : Mid). m.run.tables) moves.after in
        let text : Put out 0 (shows (mid_of r carry) part) out'' to = subst (λ (z : List ℕ). Put out 0 z out'' to)
        (ap (λ (x : Tables). prints (mid_of r carry) part ++ tables_text x) state ∙ sym (single (mid_of r carry) part one))
        (then put p) in
        record {
          moves = moves;
          onward = onward;
          text = subst (λ (z : Bool). Put out 0 (prints_with z (mid_of r carry) part) out'' to) (sym asked) text;
          place = omega (arith, short, w);
        }

-- ---- The end

pub shown_full : (r : Run) (ls : List (List ℕ)) → ltb r.lines limit ≡ false → shown_of r ls ≡ last_text r
unfolding shown_of
shown_full r [] e = refl
shown_full r (l ∷ ls) e = rw e

-- Where no line is left to answer, only the totals are printed.
pub closes_closed : (r : code.Run) (carry : List ℕ) → (r.have ≡ 0) ⊎ (r.lines ≡ limit) → closes (mid_of r carry) ≡ last_text (run_of r)
unfolding closes shown_of
closes_closed r carry (inl e) = ap (λ (h : ℕ). shown_of (run_of r) (last_line (take h carry))) e
closes_closed r carry (inr e) = shown_full (run_of r) (last_line (take r.have carry)) (le-ltb r.lines limit (omega arith))

pub last_closed : (r : code.Run) (carry : List ℕ) → (r.have ≡ 0) ⊎ (r.lines ≡ limit) → (tables : Bool) → ends (mid_of r carry) ≡ ends_with tables (mid_of r carry)
last_closed r carry h true = ends_closed r carry h ∙ sym (closes_closed r carry h)
last_closed r carry h false = refl

pub open_shown : OpenShown
unfolding closes shown_of shows shows_byte fed step
open_shown m h k = go m.part m.run h (lt-ltb m.run.lines limit k)
  where
    go : (p : List ℕ) (r : Run) → (p ≡ [] → ⊥) → ltb r.lines limit ≡ true → shows (mid p r) (line_feed ∷ []) ++ closes (fed (mid p r) (line_feed ∷ [])) ≡ closes (mid p r)
    go [] r h e = absurd (h refl)
    go (b ∷ p) r h e = rw (e, append-nil)
