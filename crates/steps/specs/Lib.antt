-- What each step leaves.
pub mod Steps
