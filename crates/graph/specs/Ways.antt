-- Walks, paths and cycles in a relation on threads.
use Rattle.std.specs.Prelude.{◌≡◌, ◌⊎◌, List, [], ◌∷◌, ℕ}
use Rattle.sets.specs.Lists.{In, Distinct}

-- A relation says of two threads whether an edge leads from the first to the second.
abbrev pub Rel : Type 1
Rel = ℕ → ℕ → Type 0

-- A walk leads from a to b along edges. It may have no edge, if a is b.
pub data Walk (E : Rel) : ℕ → ℕ → Type 0 where
  stop : {a b : ℕ} → a ≡ b → Walk E a b
  step : {a c b : ℕ} → E a c → Walk E c b → Walk E a b

-- A cycle is an edge and a walk from its end back to its start. The edge may lead from a thread to itself.
pub record Cycle (E : Rel) : Type 0 where
  pub from : ℕ
  pub to : ℕ
  pub edge : E from to
  pub back : Walk E to from

-- States that E has no cycle, and so no edge from a thread to itself either.
abbrev pub Acyclic : Rel → Type 0
Acyclic E = (a c : ℕ) → E a c → Walk E c a → ⊥

-- States that every edge of E is an edge of F.
abbrev pub Within : Rel → Rel → Type 0
Within E F = (a b : ℕ) → E a b → F a b

-- Returns the relation E with an edge from s to t added.
abbrev pub Plus : Rel → ℕ → ℕ → Rel
Plus E s t a b = E a b ⊎ ((a ≡ s) × (b ≡ t))

-- Returns the relation E with an edge from t to each of the owners added.
abbrev pub Fan : Rel → ℕ → List ℕ → Rel
Fan E t os a b = E a b ⊎ ((a ≡ t) × In b os)

-- States that edges lead from a through the threads of r in order, and that the last thread is b.
abbrev pub Chain : Rel → ℕ → List ℕ → ℕ → Type 0
Chain E a [] b = a ≡ b
Chain E a (c ∷ r) b = E a c × Chain E c r b

-- States that the path starts at a, goes along edges, and ends at b.
abbrev pub Leads : Rel → ℕ → ℕ → List ℕ → Type 0
Leads E a b [] = ⊥
Leads E a b (x ∷ r) = (x ≡ a) × Chain E x r b

-- States that p is a path from a to b in which no thread stands twice.
pub record Found (E : Rel) (a b : ℕ) (p : List ℕ) : Type 0 where
  pub leads : Leads E a b p
  pub distinct : Distinct p

-- States that edges lead from a through the elements of r in order, and from the last one to `first`.
abbrev pub Round : {A : Type 0} → (A → A → Type 0) → A → A → List A → Type 0
Round E first a [] = E a first
Round E first a (b ∷ r) = E a b × Round E first b r

-- States that the list is not empty, that each element has an edge to the next, and the last one to the first. The
-- elements are threads, or entries of a report.
abbrev pub Ring : {A : Type 0} → (A → A → Type 0) → List A → Type 0
Ring E [] = ⊥
Ring E (a ∷ r) = Round E a a r
