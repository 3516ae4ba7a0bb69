-- The tests triple by triple.
pub mod TripleTests
