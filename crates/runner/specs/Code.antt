-- What is printed, with tables and without.
use Rattle.std.specs.Prelude.{ℕ, Bool, true, false, List}
use Rattle.transcript.specs.Chunks.{Mid, prints, ends}
use Rattle.runner.specs.Shown.{shows, closes}

-- The out buffer, for answers, tables and totals, has this many bytes.
abbrev pub out_bytes : ℕ
out_bytes = 131072

-- Returns what is printed for a chunk.
abbrev pub prints_with : Bool → Mid → List ℕ → List ℕ
prints_with true = shows
prints_with false = prints

-- Returns what is printed at the text's end.
abbrev pub ends_with : Bool → Mid → List ℕ
ends_with true = closes
ends_with false = ends
