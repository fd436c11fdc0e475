-- Laws of the definitions. Each is stated once, for every index, width or list.
pub mod Digits
pub mod Walk
pub mod Lists
pub mod Below
pub mod Tables
