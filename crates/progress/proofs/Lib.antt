-- RetryKeeps, Limit, LimitReached, NoStandstill and PlanRetries hold the theorems; the files before them hold what the proofs use.
pub mod Measure
pub mod MoveKinds
pub mod RetryKeeps
pub mod Lowering
pub mod Counting
pub mod Limit
pub mod ThreadBytes
pub mod CalledTable
pub mod InTurn
pub mod LimitReached
pub mod NoStandstill
pub mod PlanRetries
-- the lines of the page of promises
pub mod Citations
