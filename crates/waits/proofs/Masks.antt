-- The code's masks and walks over places are the rules' lists.
use mathlib.Core.Path.{◌≡◌, refl, sym, ap, ◌∙◌}
use mathlib.Core.Logic.{◌⊎◌, inl, inr, ⊎_elim}
use mathlib.Core.List.{List, [], ◌∷◌, ◌++◌}
use mathlib.Core.Bool.{Bool, true, false, not, cond, ◌&&◌, true≢false, false≢true}
use Prim.Native.Nat.{ℕ, zero, suc, ◌+◌, ◌*◌, ◌/◌, ◌%◌, ◌-◌, ◌^◌, min, ◌<◌, ◌≤◌}
use native.Mathlib.Numerals.{add-one}
use native.Mathlib.Omega.{arith}
use native.Mathlib.Decide.{ℕ_discrete}
use lib.Bits.{bit_and, and_step}
use lib.Pow.{pow_pos}
use native.Mathlib.Nat.{pow-suc}
use lib.Dec.{eqb, ltb, lit<}
use lib.ListN.{get_or, drop, length, drop_of_length-le}
use lib.Seq.{drop-cons}
use borrow.Author.Tests.{eq-eqb, ne_eqb, ltb-true, eqb-true, eqb-false}
use Rattle.std.specs.List.{list_all}
use Rattle.std.specs.Option.{option_eq}
use Rattle.std.specs.Prelude.{Option, None, Some, IfSome, option_to_list}
use Rattle.std.proofs.lemmas.Option.{none-some, same_Some}
use Rattle.sets.specs.Sets.{bit, has, with, upward}
use Rattle.sets.specs.Lists.{In, among}
use Rattle.sets.specs.Below.{those}
use Rattle.sets.proofs.Digits.{bit_cases, bit_has, has_bit, not_bit, bit_with_same, bit_with_other, with_lt, bit_zero}
use Rattle.sets.proofs.Walk.{upward_zero, upward_step, upward_bit, digit_upward}
use Rattle.sets.proofs.Lists.{among_in, in_among, both, in_left, in_right, in_either}
use Rattle.sets.proofs.Below.{last_or, those_in, in_those, those_same, upward_those}
use Rattle.graph.specs.Search.{row}
use Rattle.graph.specs.Graph.{one}
use Rattle.graph.specs.Promises.{Fit}
use Rattle.waits.specs.Tables.{intent_of, holds_of}
use Rattle.waits.specs.Counts.{count_of, reads, readers}
use Rattle.waits.specs.Owners.{then_writer, waits_for}
use Rattle.waits.specs.Filter.{nothing, all_hold, nobody_reads, common_locks, passes}
use Rattle.waits.specs.Validate.{around, valid, names, some_awaits, awaited_locks}
use Rattle.waits.specs.Code.{named, common_mask, all_read, with_awaited, awaited_mask}
use Rattle.waits.specs.declared.tables.Waits.{Waits}
use Rattle.waits.specs.declared.intent.WaitIntent.{WaitIntent}

-- ---- A walk over the places of a list

-- The next element is the one at the place i.
pub next_of : (p : List ℕ) (i : ℕ) → i < length p → drop i p ≡ get_or p i 0 ∷ drop (i + 1) p
next_of p i h = drop-cons p i 0 h ∙ rw add-one

-- A list of length 0 is empty.
pub no_threads : (p : List ℕ) → length p ≡ 0 → p ≡ []
no_threads [] e = refl
no_threads (x ∷ p) e = absurd (omega arith)

-- The first thread of a path and all others are below 32.
pub first_fit : (p : List ℕ) (x : ℕ) (r : List ℕ) → Fit p → p ≡ x ∷ r → (x < 32) × ((k : ℕ) → get_or r k 0 < 32)
first_fit p x r f e = (rw e at (f.small 0), λ k. rw e at (f.small (suc k)))

-- ---- The mask of the readers

-- States that the mask m has the readers of l below t, and nothing from t on.
pub record Masked (c : List ℕ) (l t m : ℕ) : Type 0 where
  pub fits : m < 2 ^ 32
  pub below : (k : ℕ) → k < t → has m k ≡ reads c k l
  pub above : (k : ℕ) → t ≤ k → bit m k ≡ 0

pub masked_none : (c : List ℕ) (l : ℕ) → Masked c l 0 0
masked_none c l = record { fits = lit< tt; below = λ k h. absurd (omega arith); above = λ k h. bit_zero k }

module _ (c : List ℕ) (l t m : ℕ) (h : t < 32) (s : Masked c l t m) where
  -- The digit at t is right.
  settled : (m' : ℕ) → has m' t ≡ reads c t l → (k : ℕ) → k ≡ t → has m' k ≡ reads c k l
  settled m' d k e = ap (λ (j : ℕ). has m' j) e ∙ d ∙ sym (ap (λ t. reads c t l) e)

  -- A thread that reads is added, and one that does not leaves the mask as it is.
  pub masked_more : (count_of c t l ≡ 0 → ⊥) → Masked c l (t + 1) (with m t)
  masked_more n =
      record {
        fits = with_lt 32 m t s.fits h;
        below = λ k i. ⊎_elim
            (λ j. ap (λ (d : ℕ). eqb d 1) (bit_with_other m t k (λ e. omega arith)) ∙ s.below k j)
            (settled (with m t) (bit_has _ t (bit_with_same m t) ∙ sym (ap not (ne_eqb (count_of c t l) 0 n))) k) (last_or k t (omega arith));
        above = λ k i. bit_with_other m t k (λ e. omega arith) ∙ s.above k (omega arith);
      }

  pub masked_same : count_of c t l ≡ 0 → Masked c l (t + 1) m
  masked_same z =
      record {
        fits = s.fits;
        below = λ k i. ⊎_elim (λ j. s.below k j) (settled m (ap (λ (d : ℕ). eqb d 1) (s.above t (omega arith)) ∙ sym (ap not (eq-eqb (count_of c t l) 0 z))) k) (last_or k t (omega arith));
        above = λ k i. s.above k (omega arith);
      }

-- When all threads are done, the mask has the readers.
pub masked_readers : (c : List ℕ) (l m : ℕ) → Masked c l 32 m → upward 32 m ≡ readers c l
unfolding readers
masked_readers c l m s = upward_those 32 m ∙ those_same (has m) (λ t. reads c t l) 32 s.below

-- ---- The last owner

-- A thread stands in the walk over a mask exactly when it is in the mask.
pub among_upward : (m o : ℕ) → o < 32 → among o (upward 32 m) ≡ has m o
among_upward m o h = go (has m o) refl
  where
    go : (b : Bool) → has m o ≡ b → among o (upward 32 m) ≡ b
    go true e = in_among o (upward 32 m) (digit_upward 32 m o h (has_bit m o e))
    go false e = no (among o (upward 32 m)) refl
      where
        no : (b : Bool) → among o (upward 32 m) ≡ b → among o (upward 32 m) ≡ false
        no true q = absurd (omega (arith, upward_bit 32 m o (among_in o (upward 32 m) q), not_bit m o e))
        no false q = q

pub in_mask : (m o : ℕ) (rs : List ℕ) (b : Bool) → o < 32 → upward 32 m ≡ rs → has m o ≡ b → among o rs ≡ b
in_mask m o rs b h e f = ap (among o) (sym e) ∙ among_upward m o h ∙ f

-- The owner that a byte names is the list that the rule has.
pub named_one : (o : ℕ) → option_to_list (named o) ≡ one o
named_one o = go (ltb o 32)
  where
    go : (b : Bool) → option_to_list (cond b (Some o) None) ≡ cond b (o ∷ []) []
    go true = refl
    go false = refl

-- A byte that names a thread is that thread, below 32.
pub named_some : (o x : ℕ) → named o ≡ Some x → (o ≡ x) × (x < 32)
named_some o x = go (ltb o 32) (ltb-true o 32)
  where
    go : (b : Bool) → (b ≡ true → o < 32) → cond b (Some o) None ≡ Some x → (o ≡ x) × (x < 32)
    go true h e = let q = same_Some o x e in (q, rw q at (h refl))
    go false h e = absurd (none-some x e)

pub named_below : (o : ℕ) → IfSome (named o) (λ x. x < 32)
named_below o = go (named o) (named_some o)
  where
    go : (r : Option ℕ) → ((x : ℕ) → r ≡ Some x → (o ≡ x) × (x < 32)) → IfSome r (λ x. x < 32)
    go None h = tt
    go (Some x) h = (h x refl).1

-- The writer comes last, unless it is nobody or one of the readers.
pub last_in : (o : ℕ) (rs : List ℕ) → among o rs ≡ true → rs ++ [] ≡ then_writer rs o
last_in o rs e = rw e

pub last_out : (o : ℕ) (rs : List ℕ) → among o rs ≡ false → rs ++ option_to_list (named o) ≡ then_writer rs o
last_out o rs e = rw (e, named_one)

pub last_none : (o : ℕ) (rs : List ℕ) → named o ≡ None → rs ++ [] ≡ then_writer rs o
last_none o rs e = ap (λ l. rs ++ l) (go (among o rs))
  where
    z : [] ≡ one o
    z = (ap option_to_list (sym e)) ∙ named_one o

    go : (b : Bool) → [] ≡ cond b [] (one o)
    go true = refl
    go false = z

-- ---- Who waits for whom

-- `among` is false of what does not stand in a list.
not_in : (x : ℕ) (l : List ℕ) → (In x l → ⊥) → among x l ≡ false
not_in x l n = go (among x l) refl
  where
    go : (b : Bool) → among x l ≡ b → among x l ≡ false
    go true e = absurd (n (among_in x l e))
    go false e = e

module _ (m u : ℕ) (h : u < 32) (os : List ℕ) where
  -- A thread is among the owners if it is one of the last ones, or is in the mask.
  pub among_last : In u os → among u (upward 32 m ++ os) ≡ true
  among_last e = in_among u _ (in_right u (upward 32 m) os e)

  pub among_other : (In u os → ⊥) → among u (upward 32 m ++ os) ≡ has m u
  among_other n = go (has m u) refl
    where
      go : (b : Bool) → has m u ≡ b → among u (upward 32 m ++ os) ≡ b
      go true e = in_among u _ (in_left u (upward 32 m) os (digit_upward 32 m u h (has_bit m u e)))
      go false e =
          not_in u _
          (λ i. ⊎_elim (λ j. omega (arith, upward_bit 32 m u j, not_bit m u e)) n (in_either u (upward 32 m) os i))

-- The last owner is u exactly when the code's `==` says so.
pub last_is : (r : Option ℕ) (u : ℕ) → option_eq eqb r (Some u) ≡ true → In u (option_to_list r)
last_is None u e = absurd (false≢true e)
last_is (Some o) u e = inl (sym (eqb-true o u e))

pub last_not : (r : Option ℕ) (u : ℕ) → option_eq eqb r (Some u) ≡ false → In u (option_to_list r) → ⊥
last_not None u e i = i
last_not (Some o) u e (inl q) = eqb-false o u e (sym q)
last_not (Some o) u e (inr i) = i

-- ---- The test of a cycle

module _ (c : List ℕ) (w : Waits) where
  -- The empty path is not valid. The test of another one starts with its first thread.
  pub valid_none : false ≡ valid c w []
  unfolding valid
  valid_none = refl

  pub valid_first : (a : ℕ) (r : List ℕ) → around c w a a r ≡ valid c w (a ∷ r)
  unfolding valid
  valid_first a r = refl

  module _ (r : List ℕ) where
    -- The test goes on as long as each thread waits for the next, and ends with the first again.
    pub around_step : (f a i : ℕ) → i < length r → waits_for c w a (get_or r i 0) ≡ true
        → around c w f (get_or r i 0) (drop (i + 1) r) ≡ around c w f a (drop i r)
    unfolding around
    around_step f a i h e = rw (next_of r i h, e)

    pub around_stop : (f a i : ℕ) → i < length r → waits_for c w a (get_or r i 0) ≡ false → false ≡ around c w f a (drop i r)
    unfolding around
    around_stop f a i h e = rw (next_of r i h, e)

    pub around_end : (f a i : ℕ) → length r ≤ i → waits_for c w a f ≡ around c w f a (drop i r)
    unfolding around
    around_end f a i h = rw (drop_of_length-le r {i = i} h)

-- ---- The awaited locks

module _ (w : Waits) (p : List ℕ) where
  -- One turn of the loop adds the lock of one thread.
  pub awaited_step : (m i : ℕ) → i < length p
      → awaited_mask w (with_awaited m (intent_of w (get_or p i 0))) (drop (i + 1) p) ≡ awaited_mask w m (drop i p)
  unfolding awaited_mask
  awaited_step m i h = rw (next_of p i h)

  pub awaited_end : (m i : ℕ) → length p ≤ i → m ≡ awaited_mask w m (drop i p)
  unfolding awaited_mask
  awaited_end m i h = rw (drop_of_length-le p {i = i} h)

-- A lock is in the mask with an intent's lock if the intent names it or it was there.
has_awaited : (m l : ℕ) (a : Option WaitIntent) → has (with_awaited m a) l ≡ cond (names a l) true (has m l)
has_awaited m l None = refl
has_awaited m l (Some i) = go (ℕ_discrete i.lock_id l)
  where
    go : Dec (i.lock_id ≡ l) → has (with m i.lock_id) l ≡ cond (eqb i.lock_id l) true (has m l)
    go (yes e) = rw (eq-eqb i.lock_id l e) (bit_has _ l (ap (λ (k : ℕ). bit (with m k) l) e ∙ bit_with_same m l))
    go (no n) = rw (ne_eqb i.lock_id l n) (ap (λ (d : ℕ). eqb d 1) (bit_with_other m i.lock_id l (λ e. n (sym e))))

-- A lock is in the mask if a thread awaits it or it was there.
has_mask : (w : Waits) (l : ℕ) (p : List ℕ) (m : ℕ) → has (awaited_mask w m p) l ≡ cond (some_awaits w p l) true (has m l)
unfolding awaited_mask some_awaits
has_mask w l [] m = refl
has_mask w l (t ∷ p) m =
    has_mask w l p (with_awaited m (intent_of w t))
    ∙ ap (λ (x : Bool). cond (some_awaits w p l) true x) (has_awaited m l (intent_of w t))
    ∙ go (some_awaits w p l) (names (intent_of w t) l)
  where
    go : (x y : Bool) → cond x true (cond y true (has m l)) ≡ cond (cond y true x) true (has m l)
    go true true = refl
    go true false = refl
    go false true = refl
    go false false = refl

-- The walk over the mask is the rule's list.
pub awaited_locks_lem : (w : Waits) (p : List ℕ) → upward 64 (awaited_mask w 0 p) ≡ awaited_locks w p
unfolding awaited_locks
awaited_locks_lem w p = upward_those 64 (awaited_mask w 0 p) ∙ those_same (has (awaited_mask w 0 p)) (some_awaits w p) 64 (λ l h. has_mask w l p 0 ∙ rw (bit_zero l) (go (some_awaits w p l)))
  where
    go : (x : Bool) → cond x true false ≡ x
    go true = refl
    go false = refl

-- ---- The filter

module _ (h p : List ℕ) where
  -- One turn of the loop takes out the locks that one more thread does not hold.
  pub common_step : (m i : ℕ) → i < length p → common_mask h (bit_and m (row h (get_or p i 0))) (drop (i + 1) p) ≡ common_mask h m (drop i p)
  unfolding common_mask
  common_step m i q = rw (next_of p i q)

  pub common_end : (m i : ℕ) → length p ≤ i → m ≡ common_mask h m (drop i p)
  unfolding common_mask
  common_end m i q = rw (drop_of_length-le p {i = i} q)

-- The digit of a & b is the lower of the two digits.
bit_and_lem : (a b i : ℕ) → bit (bit_and a b) i ≡ min (bit a i) (bit b i)
unfolding bit
bit_and_lem a b zero = rw (and_step a b) (omega arith)
bit_and_lem a b (suc i) = ap (λ (x : ℕ). bit x i) (ap (λ (y : ℕ). y / 2) (and_step a b) ∙ half) ∙ bit_and_lem (a / 2) (b / 2) i
  where
    half : (bit_and (a / 2) (b / 2) * 2 + min (a % 2) (b % 2)) / 2 ≡ bit_and (a / 2) (b / 2)
    half = omega arith

-- A number is in a & b if it is in both.
has_and : (a b l : ℕ) → has (bit_and a b) l ≡ cond (has a l) (has b l) false
has_and a b l = rw (bit_and_lem a b l) (go (bit_cases a l) (bit_cases b l))
  where
    go : (bit a l ≡ 0) ⊎ (bit a l ≡ 1) → (bit b l ≡ 0) ⊎ (bit b l ≡ 1) → eqb (min (bit a l) (bit b l)) 1 ≡ cond (has a l) (has b l) false
    go (inl p) (inl q) = rw (p, q)
    go (inl p) (inr q) = rw (p, q)
    go (inr p) (inl q) = rw (p, q)
    go (inr p) (inr q) = rw (p, q)

-- A lock is in the mask if it was there and every thread holds it.
has_common : (w : Waits) (l : ℕ) (p : List ℕ) (m : ℕ) → has (common_mask w.thread_holds m p) l ≡ cond (has m l) (all_hold w p l) false
unfolding common_mask all_hold
has_common w l [] m = go (has m l)
  where
    go : (b : Bool) → b ≡ cond b true false
    go true = refl
    go false = refl
has_common w l (t ∷ p) m =
    has_common w l p (bit_and m (row w.thread_holds t))
    ∙ ap (λ (x : Bool). cond x (all_hold w p l) false) (has_and m (row w.thread_holds t) l)
    ∙ go (has m l) (has (holds_of w t) l)
  where
    go : (x y : Bool) → cond (cond x y false) (all_hold w p l) false ≡ cond x (cond y (all_hold w p l) false) false
    go true y = refl
    go false y = refl

-- Every digit of 2 ^ k - 1 below k is 1.
full : (k l : ℕ) → l < k → bit (2 ^ k - 1) l ≡ 1
unfolding bit
full zero l h = absurd (omega arith)
full (suc k) zero h = let e : 2 ^ suc k ≡ 2 ^ k * 2 = pow-suc 2 k in omega (arith, pow_pos k)
full (suc k) (suc l) h =
    let e : 2 ^ suc k ≡ 2 ^ k * 2 = pow-suc 2 k in
    let z : (2 ^ suc k - 1) / 2 ≡ 2 ^ k - 1 = omega (arith, pow_pos k) in
    rw z (full k l (omega arith))

-- The walk over the mask lists the locks that all threads hold.
pub all_hold_lem : (w : Waits) (p : List ℕ) → upward 64 (common_mask w.thread_holds 18446744073709551615 p) ≡ those (λ l. all_hold w p l) 64
all_hold_lem w p =
    upward_those 64 _ ∙ those_same _ _ 64 (λ l h. has_common w l p 18446744073709551615 ∙ rw (full 64 l h))

-- If `all_read` is true, no lock of the list is without readers; if it is false, one without readers is found.
read_all : (c : List ℕ) (ls : List ℕ) → all_read c ls ≡ true → (l : ℕ) → In l ls → nobody_reads c l ≡ false
unfolding all_read
read_all c [] h l i = elim i [ ]
read_all c (x ∷ ls) h l i = go (nobody_reads c x) refl h i (read_all c ls)
  where
    go : (b : Bool) → nobody_reads c x ≡ b → cond b false (all_read c ls) ≡ true → In l (x ∷ ls) → (all_read c ls ≡ true → (l : ℕ) → In l ls → nobody_reads c l ≡ false) → nobody_reads c l ≡ false
    go true e h i r = absurd (false≢true h)
    go false e h (inl q) r = ap (nobody_reads c) q ∙ e
    go false e h (inr j) r = r h l j

read_not : (c : List ℕ) (ls : List ℕ) → all_read c ls ≡ false → (l : ℕ) × In l ls × (nobody_reads c l ≡ true)
unfolding all_read
read_not c [] h = absurd (true≢false h)
read_not c (x ∷ ls) h = go (nobody_reads c x) refl h (read_not c ls)
  where
    go : (b : Bool) → nobody_reads c x ≡ b → cond b false (all_read c ls) ≡ false → (all_read c ls ≡ false → (l : ℕ) × In l ls × (nobody_reads c l ≡ true)) → (l : ℕ) × In l (x ∷ ls) × (nobody_reads c l ≡ true)
    go true e h r = (x, inl refl, e)
    go false e h r = let q = r h in (q.0, inr q.1, q.2)

-- A list is empty exactly when nothing stands in it.
nothing_in : (l : List ℕ) (x : ℕ) → In x l → nothing l ≡ false
nothing_in [] x i = elim i [ ]
nothing_in (y ∷ l) x i = refl

pub in_nothing : (l : List ℕ) → ((x : ℕ) → In x l → ⊥) → nothing l ≡ true
in_nothing [] h = refl
in_nothing (x ∷ l) h = absurd (h x (inl refl))

-- The cycle passes if every lock that all its threads hold has a reader.
pub all_read_passes : (c : List ℕ) (w : Waits) (p : List ℕ) → all_read c (upward 64 (common_mask w.thread_holds 18446744073709551615 p)) ≡ passes c w p
unfolding common_locks
all_read_passes c w p = ap (all_read c) (all_hold_lem w p) ∙ go (all_read c (those (λ l. all_hold w p l) 64)) refl
  where
    go : (b : Bool) → all_read c (those (λ l. all_hold w p l) 64) ≡ b → b ≡ passes c w p
    go true e =
        sym (in_nothing (those (λ l. cond (all_hold w p l) (nobody_reads c l) false) 64) (λ l i.
        let q = those_in (λ l. cond (all_hold w p l) (nobody_reads c l) false) 64 l i in
        let z = both (all_hold w p l) (nobody_reads c l) q.1 in
        true≢false (sym z.1 ∙ read_all c (those (λ l. all_hold w p l) 64) e l (in_those (λ l. all_hold w p l) 64 l q.0 z.0))))
    go false e =
        let q = read_not c (those (λ l. all_hold w p l) 64) e in
        let i = those_in (λ l. all_hold w p l) 64 q.0 q.1 in
        sym (nothing_in (those (λ l. cond (all_hold w p l) (nobody_reads c l) false) 64) q.0
        (in_those (λ l. cond (all_hold w p l) (nobody_reads c l) false) 64 q.0 i.0 (ap (λ (x : Bool). cond x (nobody_reads c q.0) false) i.1 ∙ q.2)))

-- ---- Whether a lock has readers

-- A lock has no readers exactly when its mask of readers is 0.
pub nobody_zero : (c : List ℕ) (l m : ℕ) → upward 32 m ≡ readers c l → m ≡ 0 → nobody_reads c l ≡ true
nobody_zero c l m e z = ap nothing (sym e ∙ ap (upward 32) z ∙ upward_zero 32 0)

pub nobody_some : (c : List ℕ) (l m : ℕ) → upward 32 m ≡ readers c l → 0 < m → m < 2 ^ 32 → nobody_reads c l ≡ false
nobody_some c l m e p h = ap nothing (sym e ∙ upward_step 32 m p h)

-- The code's test of the mask says whether the lock has readers.
pub read_mask : (c : List ℕ) (l m : ℕ) → upward 32 m ≡ readers c l → m < 2 ^ 32 → not (eqb m 0) ≡ not (nobody_reads c l)
read_mask c l m e h = ap not (go (eqb m 0) refl)
  where
    go : (b : Bool) → eqb m 0 ≡ b → b ≡ nobody_reads c l
    go true z = sym (nobody_zero c l m e (eqb-true m 0 z))
    go false z = let n : (m ≡ 0 → ⊥) = eqb-false m 0 z in sym (nobody_some c l m e (omega (arith, n)) h)

-- `all_read` is the library's test of each lock of the list.
pub read_list : (c : List ℕ) (ls : List ℕ) → list_all (λ l. not (nobody_reads c l)) ls ≡ all_read c ls
unfolding all_read
read_list c [] = refl
read_list c (l ∷ ls) = go (nobody_reads c l) ∙ ap (cond (nobody_reads c l) false) (read_list c ls)
  where
    go : (b : Bool) → (not b && list_all (λ l. not (nobody_reads c l)) ls) ≡ cond b false (list_all (λ l. not (nobody_reads c l)) ls)
    go true = refl
    go false = refl
