-- What the calls that print reports ask.
use Rattle.std.specs.Prelude.{ℕ, ◌≤◌, List, length}
use Rattle.answers.specs.Reports.{reports_size}

-- States that the first n reports of b end within b.
abbrev pub ReportsInside : ℕ → List ℕ → Type 0
ReportsInside n b = reports_size n b ≤ length b
