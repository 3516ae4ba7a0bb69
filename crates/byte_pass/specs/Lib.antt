-- The words in which the pass reads a table.
pub mod Words
