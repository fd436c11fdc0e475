-- What the calls that put a text into a buffer ask of the buffer, and what they promise.
use Rattle.std.specs.Prelude.{ℕ, ◌+◌, ◌≤◌, ◌≡◌, List, length}
use Rattle.std.proofs.lemmas.List.Edits.{sets}

-- States that the buffer d has room for the text s from the place at on.
pub record Room (d : List ℕ) (at : ℕ) (s : List ℕ) : Type 0 where
  pub fits : at + length s ≤ length d

-- States that d' is the buffer d with the text s from the place at on, unchanged elsewhere, and r the place after s.
pub record Put (d : List ℕ) (at : ℕ) (s : List ℕ) (d' : List ℕ) (r : ℕ) : Type 0 where
  pub bytes : d' ≡ sets d at s
  pub place : r ≡ at + length s

-- States that two results of one call that both keep the promise are the same (theorem `puts_coincide`).
abbrev pub PutsCoincide : Type 0
PutsCoincide = (d : List ℕ) (at : ℕ) (s e f : List ℕ) (r q : ℕ) → Put d at s e r → Put d at s f q → (e ≡ f) × (r ≡ q)
