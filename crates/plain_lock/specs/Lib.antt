-- What is permitted at any places, an event judged by plain counts, and the rows that the code looks events up in.
pub mod Permitted
pub mod Counts
pub mod Rows
