-- Laws of the definitions. The first three files are about reading.
pub mod Cut
pub mod Numbers
pub mod Kept
-- These are about printing.
pub mod Puts
pub mod Digits
