-- Laws of `In`, `among` and `Distinct`.
use mathlib.Core.Path.{◌≡◌, refl, sym, ◌∙◌}
use mathlib.Core.Logic.{◌⊎◌, inl, inr, ◌≢◌}
use mathlib.Core.List.{List, [], ◌∷◌, ◌++◌}
use mathlib.Core.Bool.{Bool, true, false, cond, false≢true}
use Prim.Native.Nat.{ℕ, zero, suc, ◌≤◌, ◌<◌}
use native.Mathlib.Omega.{arith}
use lib.Dec.{eqb}
use lib.ListN.{length}
use borrow.Author.Tests.{eqb-true, eqb-false, eq-eqb}
use Rattle.sets.specs.Lists.{In, among, Distinct}

-- ---- The test `among` is true exactly for what stands in the list

pub among_in : (x : ℕ) (l : List ℕ) → among x l ≡ true → In x l
unfolding among
among_in x [] h = absurd (false≢true h)
among_in x (y ∷ l) h = go (among_in x l) (eqb x y) refl h
  where
    go : (among x l ≡ true → In x l) → (b : Bool) → eqb x y ≡ b → cond b true (among x l) ≡ true → In x (y ∷ l)
    go r true e h = inl (eqb-true x y e)
    go r false e h = inr (r h)

pub in_among : (x : ℕ) (l : List ℕ) → In x l → among x l ≡ true
unfolding among
in_among x [] h = elim h [ ]
in_among x (y ∷ l) (inl e) = rw (eq-eqb x y e)
in_among x (y ∷ l) (inr m) = go (eqb x y) (in_among x l m)
  where
    go : (b : Bool) → among x l ≡ true → cond b true (among x l) ≡ true
    go true h = refl
    go false h = h

-- If a test and, where it is true, a second one give true, both are true.
pub both : (a b : Bool) → cond a b false ≡ true → (a ≡ true) × (b ≡ true)
both true b e = (refl, e)
both false b e = absurd (false≢true e)

-- ---- What stands in two lists joined stands in one of them

pub in_left : (x : ℕ) (a b : List ℕ) → In x a → In x (a ++ b)
in_left x [] b h = elim h [ ]
in_left x (y ∷ a) b (inl e) = inl e
in_left x (y ∷ a) b (inr m) = inr (in_left x a b m)

pub in_right : (x : ℕ) (a b : List ℕ) → In x b → In x (a ++ b)
in_right x [] b m = m
in_right x (y ∷ a) b m = inr (in_right x a b m)

pub in_either : (x : ℕ) (a b : List ℕ) → In x (a ++ b) → In x a ⊎ In x b
in_either x [] b m = inr m
in_either x (y ∷ a) b (inl e) = inl (inl e)
in_either x (y ∷ a) b (inr m) = elim (in_either x a b m) [ inl l ↦ inl (inr l) | inr r ↦ inr r ]

-- ---- A list of distinct numbers below n is no longer than n

-- Returns the list without every n in it.
but : ℕ → List ℕ → List ℕ
but n [] = []
but n (x ∷ l) = cond (eqb x n) (but n l) (x ∷ but n l)

-- What is left stood in the list and is not n.
but_in : (n x : ℕ) (l : List ℕ) → In x (but n l) → In x l × (x ≢ n)
unfolding but
but_in n x [] m = elim m [ ]
but_in n x (y ∷ l) m = go (but_in n x l) (eqb y n) refl m
  where
    go : (In x (but n l) → In x l × (x ≢ n)) → (b : Bool) → eqb y n ≡ b → In x (cond b (but n l) (y ∷ but n l)) → In x (y ∷ l) × (x ≢ n)
    go r true e m = (inr (r m).0, (r m).1)
    go r false e (inl h) = (inl h, λ k. eqb-false y n e (sym h ∙ k))
    go r false e (inr m) = (inr (r m).0, (r m).1)

-- Distinct numbers stay distinct.
but_distinct : (n : ℕ) (l : List ℕ) → Distinct l → Distinct (but n l)
unfolding but
but_distinct n [] d = tt
but_distinct n (y ∷ l) d = go (eqb y n) (but_distinct n l d.1)
  where
    go : (b : Bool) → Distinct (but n l) → Distinct (cond b (but n l) (y ∷ but n l))
    go true r = r
    go false r = (λ m. d.0 (but_in n y l m).0, r)

-- A list without n stays as it is.
but_absent : (n : ℕ) (l : List ℕ) → (In n l → ⊥) → but n l ≡ l
unfolding but
but_absent n [] d = refl
but_absent n (y ∷ l) d = go (eqb y n) refl (but_absent n l (λ m. d (inr m)))
  where
    go : (b : Bool) → eqb y n ≡ b → but n l ≡ l → cond b (but n l) (y ∷ but n l) ≡ y ∷ l
    go true e r = absurd (d (inl (sym (eqb-true y n e))))
    go false e r = rw r

-- A list of distinct numbers loses one at most.
but_length : (n : ℕ) (l : List ℕ) → Distinct l → length l ≤ suc (length (but n l))
unfolding but
but_length n [] d = omega arith
but_length n (y ∷ l) d = go (eqb y n) refl (but_length n l d.1)
  where
    go : (b : Bool) → eqb y n ≡ b → length l ≤ suc (length (but n l)) → length (y ∷ l) ≤ suc (length (cond b (but n l) (y ∷ but n l)))
    go true e r = rw (but_absent n l (rw (eqb-true y n e) at d.0)) (omega arith)
    go false e r = omega arith

-- Distinct numbers below n are at most n.
pub pigeon : (n : ℕ) (l : List ℕ) → Distinct l → ((x : ℕ) → In x l → x < n) → length l ≤ n
pigeon zero [] d b = omega arith
pigeon zero (x ∷ l) d b = absurd (omega (arith, b x (inl refl)))
pigeon (suc n) l d b =
    let r = pigeon n (but n l) (but_distinct n l d) (λ x m. let h = b x (but_in n x l m).0 in let k = (but_in n x l m).1 in omega arith) in
    omega (arith, but_length n l d)
