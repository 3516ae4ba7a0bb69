-- What the first line's callers use.
pub mod FirstLines
