-- What the contracts of a note's test cite besides the definitions of the scope paper.
pub mod Brackets
