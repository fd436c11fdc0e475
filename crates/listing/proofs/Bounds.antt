-- How long the lines of the tables are. A number below 1,000 has at most three digits.
use mathlib.Core.Path.{◌≡◌, refl, ap, ◌∙◌}
use mathlib.Core.Bool.{Bool, true, false, cond}
use mathlib.Core.Logic.{inl, inr}
use mathlib.Core.List.{List, [], ◌∷◌, ◌++◌, map}
use Prim.Native.Nat.{ℕ, zero, suc, ◌+◌, ◌*◌, ◌%◌, ◌/◌, ◌<◌, ◌≤◌}
use Prim.Native.Char.{code}
use native.Mathlib.Omega.{arith}
use native.Mathlib.Nat.{mul-suc}
use borrow.Author.Tests.{ltb-true}
use lib.Dec.{eqb, ltb}
use lib.ListN.{length, take, get_or, length-append, length-take, length-map, get_or-map}
use Rattle.sets.specs.Sets.{cons_if, upward_from, upward}
use Rattle.sets.specs.Lists.{In}
use Rattle.sets.proofs.Walk.{upward_lt}
use Rattle.graph.specs.Search.{row}
use Rattle.waits.specs.Tables.{lock_of}
use Rattle.waits.specs.Counts.{place, count_of}
use Rattle.waits.specs.declared.intent.WaitIntent.{WaitIntent}
use Rattle.waits.specs.declared.intent.WaitMode.{WaitMode}
use Rattle.waits.specs.declared.intent.WaitMode.TheVariants.{Mutex, RwRead, RwWrite}
use Rattle.std.specs.Prelude.{Option, Some, None}
use Rattle.detector.specs.Tables.{blank_cv_wait, no_pair}
use Rattle.detector.specs.State.{tables, pairs_of, blank_queue, Queued, ValidCvWait, Valid}
use Rattle.detector.specs.declared.state.Pair.{Pair}
use Rattle.detector.specs.declared.state.CvWait.{CvWait}
use Rattle.detector.specs.declared.state.Queue.{Queue}
use Rattle.detector.specs.Typed.{Typed}
use Rattle.detector.specs.declared.state.Detector.{Detector}
use Rattle.text.specs.Bytes.{text}
use Rattle.text.specs.Decimal.{decimal, with_tab, tabbed}
use Rattle.text.proofs.Digits.{decimal_short}
use Rattle.listing.specs.Listing.{table_text, two, three, along, below, members_of, set_items, sets_items, owners_items, readers_of, readers_items, pair_item, queue_items, queues_items, cv_waits_items, mode_text, intent_item, intents_items, condvars_text, graph_text, mutexes_text, rwlocks_text, threads_text, tables_text}
use Rattle.listing.specs.Code.{tables_bytes}
use Rattle.listing.proofs.Items.{tabbed_append}

-- ---- Items, each with a tab before it

-- Returns how many bytes the items take.
abbrev Size : List (List ℕ) → ℕ
Size is = length (tabbed is)

size_append : (xs ys : List (List ℕ)) → Size (xs ++ ys) ≡ Size xs + Size ys
size_append xs ys = ap length (tabbed_append xs ys) ∙ length-append (tabbed xs) (tabbed ys)

size_one : (x : List ℕ) → Size (x ∷ []) ≡ 1 + length x
unfolding tabbed
size_one x = omega (arith, length-append (with_tab x) [])

size_cons : (x : List ℕ) (xs : List (List ℕ)) → Size (x ∷ xs) ≡ 1 + length x + Size xs
unfolding tabbed
size_cons x xs = omega (arith, length-append (with_tab x) (tabbed xs))

size_none : Size [] ≡ 0
unfolding tabbed
size_none = refl

line_size : (name : List ℕ) (xs : List (List ℕ)) → length (table_text name xs) ≤ 7 + length name + Size xs
unfolding table_text tabbed
line_size name [] = omega arith
line_size name (x ∷ xs) = simp length-append (omega arith)

-- Each of k places gives at most b bytes.
along_size : (f : ℕ → List (List ℕ)) (b i k : ℕ) → ((j : ℕ) → i ≤ j → j < i + k → Size (f j) ≤ b) → Size (along f i k) ≤ b * k
unfolding along tabbed
along_size f b i zero h = omega arith
along_size f b i (suc k) h =
    let r : Size (along f (suc i) k) ≤ b * k = along_size f b (suc i) k (λ j g l. h j (omega arith) (omega arith)) in
    rw (mul-suc b k) (omega (arith, size_append (f i) (along f (suc i) k), h i (omega arith) (omega arith)))

below_size : (f : ℕ → List (List ℕ)) (b n k : ℕ) → n ≡ k → ((j : ℕ) → j < k → Size (f j) ≤ b) → Size (below n f) ≤ b * k
below_size f b n k e h = rw e (along_size f b 0 k (λ j g l. h j (omega arith)))

-- Each item takes at most b bytes.
map_size : {A : Type 0} (f : A → List ℕ) (b : ℕ) (xs : List A) → ((x : A) → 1 + length (f x) ≤ b) → Size (map f xs) ≤ b * length xs
unfolding tabbed
map_size f b [] h = omega arith
map_size f b (x ∷ xs) h = rw (mul-suc b (length xs)) (omega (arith, size_cons (f x) (map f xs), h x, map_size f b xs h))

-- ---- One item

digits : (n : ℕ) → n < 1000 → length (decimal n) ≤ 3
digits n h = decimal_short 2 n h

two_size : (a s b : ℕ) → a < 1000 → b < 1000 → 1 + length (two a s b) ≤ 8
unfolding two
two_size a s b h g = simp length-append (omega (arith, digits a h, digits b g))

three_size : (a : ℕ) (m : List ℕ) (b k : ℕ) → a < 1000 → b < 1000 → length m ≤ k → 1 + length (three a m b) ≤ 9 + k
unfolding three
three_size a m b k h g l = simp length-append (omega (arith, digits a h, digits b g))

-- ---- Sets

cons_if_length : (d i k : ℕ) (l : List ℕ) → length l ≤ k → length (cons_if d i l) ≤ suc k
cons_if_length zero i k l h = omega arith
cons_if_length (suc d) i k l h = omega arith

upward_length : (k i m : ℕ) → length (upward_from k i m) ≤ k
unfolding upward_from
upward_length zero i m = omega arith
upward_length (suc k) i m = cons_if_length (m % 2) i k _ (upward_length k (suc i) (m / 2))

in_size : (f : ℕ → List ℕ) (b : ℕ) (xs : List ℕ) → ((x : ℕ) → In x xs → 1 + length (f x) ≤ b) → Size (map f xs) ≤ b * length xs
unfolding tabbed
in_size f b [] h = omega arith
in_size f b (x ∷ xs) h = rw (mul-suc b (length xs)) (omega (arith, size_cons (f x) (map f xs), h x (inl refl), in_size f b xs (λ y m. h y (inr m))))

members_size : (m : ℕ) → Size (members_of m) ≤ 256
unfolding members_of
members_size m =
    let r : Size (map decimal (upward 64 m)) ≤ 4 * length (upward 64 m) = in_size decimal 4 (upward 64 m) (λ x i. omega (arith, digits x (omega (arith, upward_lt 64 m x i)))) in
    omega (arith, upward_length 64 0 m)

set_size : (s i m : ℕ) → i < 1000 → Size (set_items s i m) ≤ 512
unfolding set_items
set_size s i m h =
    let r : Size (map (two i s) (upward 64 m)) ≤ 8 * length (upward 64 m) = in_size (two i s) 8 (upward 64 m) (λ x j. two_size i s x h (omega (arith, upward_lt 64 m x j))) in
    omega (arith, upward_length 64 0 m)

sets_size : (s n : ℕ) (rows : List ℕ) → length rows ≡ n → n ≤ 64 → Size (sets_items s rows) ≤ 512 * n
unfolding sets_items
sets_size s n rows e h = below_size _ 512 (length rows) n e (λ j g. set_size s j (row rows j) (omega arith))

-- ---- The other tables

owner_pick : (t : Bool) (l o : ℕ) → ltb o 32 ≡ t → l < 64 → Size (cond t (two l 58 o ∷ []) []) ≤ 8
owner_pick true l o e h = omega (arith, size_one (two l 58 o), two_size l 58 o (omega arith) (omega (arith, ltb-true o 32 e)))
owner_pick false l o e h = omega (arith, size_none)

owners_size : (os : List ℕ) → length os ≡ 64 → Size (owners_items os) ≤ 512
unfolding owners_items
owners_size os e = below_size _ 8 (length os) 64 e (λ j g. owner_pick (ltb (row os j) 32) j (row os j) refl g)

reader_pick : (t : Bool) (l u n : ℕ) → l < 64 → u < 32 → n < 256 → Size (cond t [] (three l (decimal u) n ∷ [])) ≤ 12
reader_pick true l u n h g k = omega (arith, size_none)
reader_pick false l u n h g k = omega (arith, size_one (three l (decimal u) n), three_size l (decimal u) n 3 (omega arith) (omega arith) (digits u (omega arith)))

readers_size : (c : List ℕ) → ((i : ℕ) → get_or c i 0 < 256) → Size (readers_items c) ≤ 24576
unfolding readers_items readers_of
readers_size c h =
    below_size (readers_of c) 384 64 64 refl
    (λ l g. below_size _ 12 32 32 refl (λ t k. reader_pick (eqb (count_of c t l) 0) l t (count_of c t l) g k (h (place t l))))

-- What holds of every pair of a queue holds of every pair of its first ones.
taken : (P : Pair → Type 0) (n : ℕ) (ps : List Pair) → P no_pair → ((k : ℕ) → P (get_or ps k no_pair)) → (k : ℕ) → P (get_or (take n ps) k no_pair)
taken P zero ps p h k = p
taken P (suc n) [] p h k = p
taken P (suc n) (x ∷ ps) p h zero = h zero
taken P (suc n) (x ∷ ps) p h (suc k) = taken P n ps p (λ j. h (suc j)) k

queue_size : (c : ℕ) (q : Queue) → c < 16 → Queued q → Size (queue_items c (pairs_of q)) ≤ 384
unfolding queue_items
queue_size c q h v =
    let r : Size (map (pair_item c) (take q.len q.pairs)) ≤ 12 * length (take q.len q.pairs) = go (take q.len q.pairs) small in
    omega (arith, length-take q.len q.pairs, v.long)
  where
    small : (k : ℕ) → 1 + length (pair_item c (get_or (take q.len q.pairs) k no_pair)) ≤ 12
    small = taken (λ p. 1 + length (pair_item c p) ≤ 12) q.len q.pairs (three_size c _ _ 3 (omega arith) (omega arith) (digits 0 (omega arith)))
        (λ k. let t = v.threads k in let l = v.locks k in three_size c _ _ 3 (omega arith) (omega arith) (digits _ (omega arith)))

    go : (ps : List Pair) → ((k : ℕ) → 1 + length (pair_item c (get_or ps k no_pair)) ≤ 12) → Size (map (pair_item c) ps) ≤ 12 * length ps
    go [] k = omega (arith, size_none)
    go (p ∷ ps) k = rw (mul-suc 12 (length ps)) (omega (arith, size_cons (pair_item c p) (map (pair_item c) ps), k 0, go ps (λ j. k (suc j))))

queues_size : (qs : List Queue) → length qs ≡ 16 → ((c : ℕ) → c < 16 → Queued (get_or qs c blank_queue)) → Size (queues_items (map pairs_of qs)) ≤ 6144
unfolding queues_items
queues_size qs e v =
    below_size _ 384 (length (map pairs_of qs)) 16 (length-map qs pairs_of ∙ e)
    (λ c g. rw (get_or-map pairs_of qs c blank_queue) (queue_size c (get_or qs c blank_queue) g (v c g)))

cv_wait_pick : (t : Bool) (u c l : ℕ) → u < 32 → c ≤ 16 → l < 64 → Size (cond t [] (three u (decimal c) l ∷ [])) ≤ 12
cv_wait_pick true u c l h g k = omega (arith, size_none)
cv_wait_pick false u c l h g k = omega (arith, size_one (three u (decimal c) l), three_size u (decimal c) l 3 (omega arith) (omega arith) (digits c (omega arith)))

cv_waits_size : (vs : List CvWait) → length vs ≡ 32 → ((t : ℕ) → ValidCvWait (get_or vs t blank_cv_wait)) → Size (cv_waits_items vs) ≤ 384
unfolding cv_waits_items
cv_waits_size vs e v =
    below_size _ 12 (length vs) 32 e
    (λ t g. cv_wait_pick (eqb (get_or vs t blank_cv_wait).condvar 16) t _ _ g (v t).condvar (v t).lock)

mode_size : (m : WaitMode) → length (mode_text m) ≤ 7
mode_size Mutex = omega arith
mode_size RwRead = omega arith
mode_size RwWrite = omega arith

intent_size : (t : ℕ) (a : Option WaitIntent) → t < 32 → lock_of a < 64 → Size (intent_item t a) ≤ 16
intent_size t None h g = omega (arith, size_none)
intent_size t (Some i) h g = omega (arith, size_one (three t (mode_text i.mode) i.lock_id), three_size t (mode_text i.mode) i.lock_id 7 (omega arith) (omega arith) (mode_size i.mode))

intents_size : (is : List (Option WaitIntent)) → length is ≡ 32 → ((t : ℕ) → lock_of (get_or is t None) < 64) → Size (intents_items is) ≤ 512
unfolding intents_items
intents_size is e v = below_size _ 16 (length is) 32 e (λ t g. intent_size t (get_or is t None) g (v t))

-- ---- All tables

-- States that the text x has at most a bytes.
record Short (x : List ℕ) (a : ℕ) : Type 0 where
  fits : length x ≤ a

both : {x y : List ℕ} {a b : ℕ} → Short x a → Short y b → Short (x ++ y) (a + b)
both {x} {y} h g = record { fits = omega (arith, length-append x y, h.fits, g.fits) }

-- The name of a table has at most 16 letters, so 23 bytes are enough for all but the items.
short : (name : List ℕ) (xs : List (List ℕ)) (b : ℕ) → length name ≤ 16 → Size xs ≤ b → Short (table_text name xs) (23 + b)
short name xs b h g = record { fits = omega (arith, line_size name xs) }

module _ (d : Detector) (v : Valid d) (s : Typed d) where
  condvars_size : Short (condvars_text (map pairs_of d.condvars.cv_waiters) d.cv_woken) 6446
  unfolding condvars_text
  condvars_size =
      both (short (text "cv_waiters") _ _ (omega arith) (queues_size d.condvars.cv_waiters s.queues v.queues)) (short (text "cv_woken") _ _ (omega arith) (members_size d.cv_woken))

  graph_size : Short (graph_text d.waits) 32814
  unfolding graph_text
  graph_size =
      both (short (text "edges") _ _ (omega arith) (sets_size (code ">") 32 _ s.edges.long (omega arith))) (short (text "incoming_edges") _ _ (omega arith) (sets_size (code "<") 32 _ s.incoming.long (omega arith)))

  mutexes_size : Short (mutexes_text d.waits) 33326
  unfolding mutexes_text
  mutexes_size =
      both (short (text "lock_waiters") _ _ (omega arith) (sets_size (code ":") 64 _ s.waiters.long (omega arith))) (short (text "mutex_owners") _ _ (omega arith) (owners_size _ s.owners.long))

  rwlocks_size : Short (rwlocks_text d.waits d.rwlock_readers) 25134
  unfolding rwlocks_text
  rwlocks_size =
      both (short (text "rwlock_readers") _ _ (omega arith) (readers_size _ s.readers.small)) (short (text "rwlock_writer") _ _ (omega arith) (owners_size _ s.writers.long))

  threads_size : Short (threads_text d.waits d.condvars.thread_wait_cv) 17349
  unfolding threads_text
  threads_size =
      both (short (text "thread_holds") _ _ (omega arith) (sets_size (code ":") 32 _ s.holds.long (omega arith)))
      (both (short (text "thread_wait_cv") _ _ (omega arith) (cv_waits_size _ s.cv_places v.cv_waits)) (short (text "thread_waits_for") _ _ (omega arith) (intents_size _ s.slots v.waits.locks)))

  pub tables_bound : length (tables_text (tables d)) ≤ tables_bytes
  unfolding tables_text
  tables_bound =
      let all : Short (tables_text (tables d)) (6446 + (32814 + (33326 + (25134 + 17349)))) = both condvars_size (both graph_size (both mutexes_size (both rwlocks_size threads_size))) in
      omega (arith, all.fits)
