-- What a move sees, and what follows from it.
pub mod View
