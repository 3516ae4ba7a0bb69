-- Laws of comparisons and of numbers, which the readers' proofs share and callers cite.
pub mod Comparisons
pub mod NumberReading
pub mod Numerals
