-- What the theorem on the arrows speaks of besides the definitions of the papers.
pub mod Arrows
-- on the page of promises
pub mod ArrowsTaken
