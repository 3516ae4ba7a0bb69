-- The lines of a history by its pairs.
pub mod EventLines
