-- The definitions that this crate's contracts cite besides those of the crates definitions, theory and soundness.
pub mod TableTests
