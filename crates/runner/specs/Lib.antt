-- What tables prints for a script, and what the calls of both programs promise.
pub mod Shown
pub mod Code
pub mod Promises
