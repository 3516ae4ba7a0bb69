-- What the promises of this crate cite besides the definitions of the scope paper.
pub mod Encoding
pub mod Bounds
pub mod Calls
-- on the page of promises
pub mod NumbersTold
