-- What a move promises over any storage, and what the functions behind it are handed.
pub mod Moved
