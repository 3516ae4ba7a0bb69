-- Shared facts first, then the theorems of 02 §3, a file each.
pub mod WrittenLines
pub mod ReadWritten
pub mod SameScript
pub mod WrittenRead
pub mod Rooms
pub mod PlanWriteRun
pub mod RefusedAlike
-- the lines of the page of promises
pub mod Citations
