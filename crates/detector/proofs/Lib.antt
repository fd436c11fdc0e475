-- Laws of the events, and the ties from the code to them.
pub mod Ranges
pub mod Promises
pub mod Queues
pub mod Numbers
pub mod Serving
-- This file has the theorems `all_brief` and `valid_brief`.
pub mod Brief
-- These have the theorems that refusal 2 is a test of validity, that the tables of a valid state determine it, and what
-- it means to be stuck.
pub mod Validity
pub mod SameState
pub mod StuckLaws
