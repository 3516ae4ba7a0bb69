-- Bytes of which a task was written.
pub mod Written
