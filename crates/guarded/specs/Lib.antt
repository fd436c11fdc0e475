-- What the calls for anybody test and promise.
pub mod Promises
