-- Reports are read back from their bytes.
use mathlib.Core.Path.{◌≡◌, refl, ap}
use mathlib.Core.List.{List, [], ◌∷◌, ◌++◌, append_assoc}
use Prim.Native.Nat.{ℕ, ◌+◌, ◌*◌}
use native.Mathlib.Omega.{arith}
use native.Mathlib.Numerals.{one-add}
use lib.ListN.{length, drop, length-append}
use lib.Seq.{drop_at}
use Rattle.waits.specs.Report.{Entry, entry_bytes, entries_text}
use Rattle.waits.proofs.Judging.{length_entries}
use Rattle.answers.specs.Reports.{entries_in, reports_in, reports_size, reports_bytes}

entries_read : (es : List Entry) (rest : List ℕ) → entries_in (length es) (entries_text es ++ rest) ≡ es
unfolding entries_in entries_text
entries_read [] rest = refl
entries_read (e ∷ es) rest = ap (λ (x : List Entry). e ∷ x) (entries_read es rest)

-- What is left after the first report is the rest.
after_first : (es : List Entry) (rest : List ℕ) → drop (1 + entry_bytes * length es) (length es ∷ (entries_text es ++ rest)) ≡ rest
after_first es rest = rw (one-add, ← length_entries es) (drop_at (entries_text es) rest (length (entries_text es)) refl)

-- The bytes of reports read back as these reports, whatever bytes come after them.
pub reports_read : (rs : List (List Entry)) (rest : List ℕ) → reports_in (length rs) (reports_bytes rs ++ rest) ≡ rs
unfolding reports_in reports_bytes
reports_read [] rest = refl
reports_read (es ∷ rs) rest = rw (append_assoc (entries_text es) (reports_bytes rs) rest, entries_read es (reports_bytes rs ++ rest), after_first es (reports_bytes rs ++ rest), reports_read rs rest)

-- The size that is read back is the number of the bytes.
pub reports_size_lem : (rs : List (List Entry)) (rest : List ℕ) → reports_size (length rs) (reports_bytes rs ++ rest) ≡ length (reports_bytes rs)
unfolding reports_size reports_bytes
reports_size_lem [] rest = refl
reports_size_lem (es ∷ rs) rest =
    rw (append_assoc (entries_text es) (reports_bytes rs) rest, after_first es (reports_bytes rs ++ rest), reports_size_lem rs rest)
    (omega (arith, length_entries es, length-append (entries_text es) (reports_bytes rs)))
