-- Laws of tests, of words on threads and of matches; the sum of the holders' phases; the rules from a tally; then the theorem.
pub mod Bools
pub mod Threads
pub mod Holders
pub mod Rules
pub mod OnePass
-- the lines of the page of promises
pub mod Citations
