-- What an event is judged by, and what it changes.
pub mod Updates
