-- What the promise of the first line's reader cites besides the definitions.
pub mod FirstLine
