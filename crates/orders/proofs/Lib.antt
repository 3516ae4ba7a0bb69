-- EveryOrder holds the theorem of demand 3; the files before it hold what its proofs use.
pub mod PairTests
pub mod Safety
pub mod RestTables
pub mod Flags
pub mod EventPlans
pub mod CheckReply
pub mod PlanEntry
pub mod HistoryBytes
pub mod EveryOrder
-- the lines of the page of promises
pub mod Citations
