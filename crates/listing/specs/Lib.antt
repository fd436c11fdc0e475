-- The lines that are printed for the tables of a state.
pub mod Listing
pub mod Code
pub mod Promises
