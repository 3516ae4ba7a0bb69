-- What an event changes is right.
pub mod EventLaws
