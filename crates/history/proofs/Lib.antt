-- The tests before the pass over the pairs.
pub mod CheckLaws
