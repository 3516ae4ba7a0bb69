-- What the promises cite besides the definitions of the scope paper.
pub mod Readings
