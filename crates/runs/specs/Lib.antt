-- What the theorems on the run of a script speak of besides the definitions of the scope paper.
pub mod Requests
pub mod Length
-- on the page of promises
pub mod RunRooms
pub mod PrintedRun
