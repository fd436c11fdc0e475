-- The detector: its tables, the rules of its events, the refusals, and what the calls promise.
pub mod Limits
pub mod Tables
pub mod Mutex
pub mod RwLock
pub mod Condvar
pub mod Events
pub mod Refusals
pub mod Numbered
pub mod Effects
pub mod State
pub mod Brief
pub mod Typed
pub mod Stuck
pub mod Code
pub mod Promises
