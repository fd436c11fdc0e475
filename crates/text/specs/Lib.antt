-- Text as bytes: what reading and printing share, then reading, then printing, and the promises of the calls.
pub mod Bytes
pub mod Fields
pub mod Lines
pub mod Numbers
pub mod Decimal
pub mod Promises
