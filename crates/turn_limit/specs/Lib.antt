-- What the theorems on turns speak of besides the definitions of the papers.
pub mod AnyOrder
pub mod TurnLimit
-- on the page of promises
pub mod WaitingComes
