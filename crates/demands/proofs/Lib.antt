-- The proofs of the statements in specs/. Theorems stand beside the file that proves them.
-- sessions_hold, further_hold, cv_waits_hold
pub mod Sessions
-- These five show what the rules of waiting, the judgements and the events keep.
pub mod Keeping
pub mod Held
pub mod Fine
pub mod Reports
pub mod Events
-- reached_kept, reached_brief; demand 3: first_half
pub mod Invariants
-- Demand 3: second_half
pub mod Exact
-- The two files that follow are for demand 1: step_answered
pub mod StepAnswered
-- Demand 1: all_answered, all_answered_from_new, each_answered, refused_by_number; demand 2: as_ruled,
-- coincide, steps_coincide; demand 3: reports_true, converse
pub mod Demands
