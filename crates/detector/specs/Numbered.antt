-- The refusals by their numbers, and what a result says of them.
use Rattle.std.specs.Prelude.{cond, ℕ, eqb, Result, Ok, Err}
use Rattle.detector.specs.declared.refused.Refusal.{Refusal}
use Rattle.detector.specs.declared.refused.Refusal.TheVariants.{Unreadable, State, Thread, Lock, Condvar, Buffer, Queue, Count}

-- Returns the number of a refusal.
abbrev pub number : Refusal → ℕ
number Unreadable = 1
number State = 2
number Thread = 3
number Lock = 4
number Condvar = 5
number Buffer = 6
number Queue = 7
number Count = 8

-- Returns the refusal that has the number n, which is 1 to 8.
abbrev pub numbered : ℕ → Refusal
numbered n =
    cond (eqb n 1) Unreadable
    (cond (eqb n 2) State
    (cond (eqb n 3) Thread
    (cond (eqb n 4) Lock
    (cond (eqb n 5) Condvar
    (cond (eqb n 6) Buffer
    (cond (eqb n 7) Queue Count))))))

-- A reply: the number of reports, or the refusal.
abbrev pub Reply : Type 0
Reply = Result ℕ Refusal

-- Returns the number of the refusal, or 0 if the result is not a refusal.
abbrev pub refused_by : {A : Type 0} → Result A Refusal → ℕ
refused_by (Ok x) = 0
refused_by (Err r) = number r

-- Returns the number of reports, or 0 if the event was refused.
abbrev pub reports_of : {R : Type 0} → Result ℕ R → ℕ
reports_of (Ok n) = n
reports_of (Err r) = 0
