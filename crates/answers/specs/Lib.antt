-- What the report buffer holds, and what is printed for a line.
pub mod Reports
pub mod Answers
pub mod Promises
