-- Definitions that go over the numbers below a bound, from 0 upward.
use Rattle.std.specs.Prelude.{List, [], ◌∷◌, ◌++◌, Bool, true, false, cond, ℕ, zero, suc}

-- Returns true if f is true for every number below n.
unfoldable pub every : (ℕ → Bool) → ℕ → Bool
every f zero = true
every f (suc n) = cond (every f n) (f n) false

-- Returns the numbers below n for which f is true, upward.
unfoldable pub those : (ℕ → Bool) → ℕ → List ℕ
those f zero = []
those f (suc n) = those f n ++ cond (f n) (n ∷ []) []

-- Returns x after f was applied to it for every number below n, upward.
unfoldable pub each : {A : Type 0} → (A → ℕ → A) → A → ℕ → A
each f x zero = x
each f x (suc n) = f (each f x n) n
