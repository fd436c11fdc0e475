-- What is demanded of the detector, as statements: the sessions worked by hand, what holds of every reached
-- state, and the three demands. Beside each statement stands the name of its theorem, which is in proofs/.
pub mod Reached
pub mod Sessions
pub mod Invariants
pub mod Driven
pub mod Demand1
pub mod Demand2
pub mod Demand3
