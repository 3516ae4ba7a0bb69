-- What the promise of the walk over lines cites besides the definitions of the scope paper.
pub mod Lines
