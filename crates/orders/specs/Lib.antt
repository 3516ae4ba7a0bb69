-- What the theorems of demand 3 speak of besides the definitions of the scope paper.
pub mod Rounds
pub mod Histories
-- on the page of promises
pub mod EveryOrder
