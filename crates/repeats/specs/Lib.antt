-- What the writers repeat.
pub mod Requests
