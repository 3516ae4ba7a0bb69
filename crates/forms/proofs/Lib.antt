-- The theorems on the grammar.
pub mod Spelling
-- the lines of the page of promises
pub mod Citations
