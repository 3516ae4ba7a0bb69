-- The loop over the lines.
pub mod Loop
