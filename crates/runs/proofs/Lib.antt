-- Shared facts first, then the theorems; each file says what it shows.
pub mod Numbers
pub mod Lines
pub mod Potential
pub mod LastLine
-- the theorems
pub mod Suffices
pub mod StepsAndEvents
pub mod RetriesCounted
-- the lines of the page of promises
pub mod Citations
