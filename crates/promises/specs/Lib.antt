-- The page, and the part of it whose words are contracts.
pub mod Entries
pub mod Promises
