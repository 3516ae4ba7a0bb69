-- The pass over the pairs.
pub mod PassLaws
