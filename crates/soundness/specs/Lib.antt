-- The definitions that this crate's contracts cite besides those of the crate definitions.
pub mod Pass
-- on the page of promises
pub mod PassDecides
