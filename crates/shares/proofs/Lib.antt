-- The shares, what the loop over the events counts, and what the check's answer says of the count.
pub mod ShareLaws
pub mod Counting
pub mod LengthLaws
