-- Shared facts first, then the theorems of 02 §4, a file each, the longest plan's last.
pub mod ByRounds
pub mod RoundCosts
pub mod LongestHistory
pub mod Longest
-- the lines of the page of promises
pub mod Citations
