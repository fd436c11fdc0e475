-- Laws of tables: what a store keeps, and how a fold goes over two lists joined.
use mathlib.Core.Path.{◌≡◌, refl}
use mathlib.Core.List.{List, [], ◌∷◌, ◌++◌, foldl}
use Prim.Native.Nat.{ℕ, zero, suc}
use lib.ListN.{get_or, set}

-- What is true of the value stored and of every place before is true of every place after the store.
pub set_all : {A : Type 0} (P : A → Type 0) (l : List A) (i : ℕ) (v d : A) → P v → ((k : ℕ) → P (get_or l k d)) → (k : ℕ) → P (get_or (set l i v) k d)
set_all P [] i v d p h k = h k
set_all P (x ∷ l) zero v d p h zero = p
set_all P (x ∷ l) zero v d p h (suc k) = h (suc k)
set_all P (x ∷ l) (suc i) v d p h zero = h zero
set_all P (x ∷ l) (suc i) v d p h (suc k) = set_all P l i v d p (λ j. h (suc j)) k

-- A fold over two lists joined is the fold over the second, begun with the result of the first.
pub fold_append : {A B : Type 0} (f : B → A → B) (x y : List A) (b : B) → foldl f b (x ++ y) ≡ foldl f (foldl f b x) y
fold_append f [] y b = refl
fold_append f (a ∷ x) y b = fold_append f x y (f b a)
