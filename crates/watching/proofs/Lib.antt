-- Laws first; EveryEvent has the statements.
pub mod ShownPlaces
pub mod EventSteps
pub mod Questions
pub mod Reaching
pub mod EveryEvent
-- the lines of the page of promises
pub mod Citations
