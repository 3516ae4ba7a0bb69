-- TurnsAnyOrder, TurnLimit and TurnLimitReached hold the theorems; the files before them hold what the proofs use.
pub mod Stops
pub mod TurnsLeft
pub mod NextPhases
pub mod StopsKept
pub mod OneRequest
pub mod AllStopped
pub mod Turns
pub mod ByChoice
pub mod TurnsAnyOrder
pub mod TurnLimit
pub mod InOrder
pub mod LongestTable
pub mod TurnLimitReached
-- the lines of the page of promises
pub mod Citations
