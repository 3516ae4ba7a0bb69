-- The tests of the three entries.
pub mod TestLaws
