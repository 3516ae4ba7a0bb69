-- The open moves by where a thread stands; lengths of their parts and one part more; then what the entry answers.
pub mod OpenList
pub mod PairLists
pub mod OpenAnswer
