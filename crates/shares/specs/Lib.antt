-- What an event adds to the length of a plan.
pub mod Shares
