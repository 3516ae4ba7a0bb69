-- A request whose numbers pass.
pub mod TestedNumbers
