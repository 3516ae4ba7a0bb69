-- TurnIsMove, WaitingExactly and WaitingMeans hold the theorems; the files before them hold what the proofs use.
pub mod TurnKinds
pub mod Choice
pub mod TurnReplies
pub mod TurnIsMove
pub mod WaitingExactly
pub mod WaitingMeans
-- the lines of the page of promises
pub mod Citations
