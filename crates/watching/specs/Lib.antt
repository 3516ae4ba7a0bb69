-- What the theorems on the watcher speak of besides the definitions of 02 §2.
pub mod Verdicts
-- on the page of promises
pub mod EveryEvent
