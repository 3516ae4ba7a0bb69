-- What the tests make of the promise.
pub mod EntryLaws
