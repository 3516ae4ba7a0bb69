-- What the promise cites besides the definitions of the scope paper.
pub mod Output
