-- What the calls that write a report promise.
use Rattle.std.specs.Prelude.{List, ℕ}
use Rattle.std.proofs.lemmas.List.Edits.{sets}

-- Returns the buffer b with the bytes s from the place at on, unchanged elsewhere.
unfoldable pub laid : List ℕ → ℕ → List ℕ → List ℕ
laid b at s = sets b at s
