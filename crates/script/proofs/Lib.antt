-- What the output makes of the promise.
pub mod EntryLaws
