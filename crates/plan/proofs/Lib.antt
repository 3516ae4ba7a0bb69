-- The triples of a plan as a text in parts, and the entry; each file says what it shows.
pub mod PlanParts
pub mod EntryLaws
