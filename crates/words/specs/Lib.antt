-- What the contracts of the readers of words cite besides the definitions of the scope paper.
pub mod Numbers
