-- The moves of a phase as bits, and the targets of a move.
pub mod MoveBits
