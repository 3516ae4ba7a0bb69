pub mod Output
-- the lines of the page of promises
pub mod Citations
