-- What the calls promise, with tables and without.
use Rattle.std.specs.Prelude.{ℕ, suc, ◌<◌, ◌≤◌, ◌≡◌, Bool, true, cond, List, [], ◌∷◌, eqb, length}
use Rattle.text.specs.Bytes.{line_feed}
use Rattle.text.specs.Promises.{Put}
use Rattle.transcript.specs.Code.{mid_of, between}
use Rattle.transcript.specs.Promises.{Moves}
use Rattle.transcript.specs.declared.run.Run.{Run}
use Rattle.transcript.specs.declared.run.Turned.{Turned}
use Rattle.runner.specs.Code.{out_bytes, prints_with}

-- Returns how many lines end in a text.
unfoldable pub line_ends : List ℕ → ℕ
line_ends [] = 0
line_ends (b ∷ t) = cond (eqb b line_feed) (suc (line_ends t)) (line_ends t)

-- States that the chunk has this part, and that with tables at most one line ends in it.
pub record Part (tables : Bool) (chunk : List ℕ) (from to : ℕ) : Type 0 where
  pub onward : from < to
  pub inside : to ≤ length chunk
  pub one : tables ≡ true → line_ends (between from to chunk) ≤ 1

-- States that at least one byte of the chunk was taken, and that the text up to `t.next` was put.
pub record Puts (tables : Bool) (r : Run) (carry chunk : List ℕ) (from : ℕ) (out : List ℕ) (r' : Run) (t : Turned) (carry' out' : List ℕ) : Type 0 where
  pub moves : Moves r carry chunk from t.next r' carry'
  pub onward : from < t.next
  pub text : Put out 0 (prints_with tables (mid_of r carry) (between from t.next chunk)) out' t.at
  pub place : t.at ≤ out_bytes
