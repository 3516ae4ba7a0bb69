-- The moves in the order of their numbers, and which moves a phase has, as bits.
pub mod Moves
pub mod Bits
