-- Shared laws first, then the theorems.
pub mod Turns
