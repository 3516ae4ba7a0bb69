-- The definitions that this crate's contracts cite besides those of the crates definitions and soundness.
pub mod Rows
