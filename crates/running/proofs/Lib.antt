-- The history and the output line by line, then the loop.
pub mod Histories
pub mod PrintedText
pub mod Loop
