-- What contracts of several crates cite besides the definitions of the scope paper, and the words of the theorems' statements.
pub mod Tables
pub mod Statements
-- on the page of promises
pub mod TableEntries
pub mod EachMove
pub mod PlanCounted
