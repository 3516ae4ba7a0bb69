-- What the promises of the entries cite besides the definitions and the answers' numbers.
pub mod Version
