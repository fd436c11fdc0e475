-- Laws of the definitions, and the theorems that follow from them.
-- The first four files are about what the code keeps.
pub mod Trails
pub mod Places
pub mod Adding
pub mod Fits
-- These have the theorems.
pub mod Ways
pub mod Paths
pub mod Good
pub mod Register
pub mod Reflection
