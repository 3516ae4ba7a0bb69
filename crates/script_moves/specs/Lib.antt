-- What the promise cites besides the definitions.
pub mod AllLines
