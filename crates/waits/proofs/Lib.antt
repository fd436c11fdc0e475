-- Laws of the rules, and the ties from the code to them.
pub mod Laws
pub mod Steps
pub mod Masks
pub mod Judging
-- Here the rules are run on small tables.
pub mod Readings
