-- What replay prints for a script, as a text and in chunks, and what the calls promise.
pub mod Replay
pub mod Chunks
pub mod Code
pub mod Promises
pub mod Calls
