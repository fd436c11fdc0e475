-- Laws about the printed lines (their parts and lengths) and about reports that are read back from their bytes.
pub mod Items
pub mod Bounds
pub mod Laid
mod Examples
