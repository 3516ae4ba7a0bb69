-- What the promises cite besides the definitions.
pub mod Moves
