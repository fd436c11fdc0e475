-- The rules of waiting (docs/RULES.md), the tables they work on, and what the calls promise.
pub mod Tables
pub mod Counts
pub mod Owners
pub mod Waiting
pub mod Filter
pub mod Report
pub mod Validate
pub mod Attempt
pub mod Code
pub mod Promises
