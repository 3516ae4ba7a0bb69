-- Requests as a text in parts.
pub mod Requests
