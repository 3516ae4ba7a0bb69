-- The definitions that the contracts of the open moves cite besides those of the crates below.
pub mod Pairs
