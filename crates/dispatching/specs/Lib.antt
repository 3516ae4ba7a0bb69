-- What the laws and theorems of the dispatcher's choice speak of besides the definitions of the papers.
pub mod Ready
pub mod Turns
-- on the page of promises
pub mod TurnsAndWaiting
