pub mod StepsSafe
-- the lines of the page of promises
pub mod Citations
