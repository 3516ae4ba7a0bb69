-- Counts of flags; then one move as a whole, over any storage.
pub mod Counts
pub mod OneMove
