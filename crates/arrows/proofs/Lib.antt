-- EveryArrow and FigureExact hold the theorems; the files before them hold what their proofs use.
pub mod Taking
pub mod OneRequest
pub mod Immediate
pub mod TakingMutex
pub mod ClearingFlags
pub mod ToShared
pub mod ToExclusive
pub mod OnBytes
pub mod EveryArrow
pub mod FigureExact
-- the lines of the page of promises
pub mod Citations
