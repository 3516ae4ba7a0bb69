-- Completeness holds the theorem; the files before it hold what its proof uses.
pub mod Rank
pub mod Before
pub mod BeforeHolder
pub mod StepBack
pub mod FromFresh
pub mod Completeness
-- the lines of the page of promises
pub mod Citations
