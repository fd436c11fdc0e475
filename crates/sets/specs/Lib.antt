-- What a set of small numbers is, and the definitions on lists and numbers that the other crates share.
pub mod Limits
pub mod Sets
pub mod Lists
pub mod Below
