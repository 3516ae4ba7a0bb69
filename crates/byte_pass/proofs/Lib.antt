-- The words of a table's threads in the order in which the pass reads them.
pub mod Passing
