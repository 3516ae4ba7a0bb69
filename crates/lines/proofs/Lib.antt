-- Laws of lines, and of loops over them.
pub mod FirstLines
pub mod Walks
