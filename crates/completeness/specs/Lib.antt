-- What the theorem of completeness speaks of besides the definitions of the scope paper.
pub mod Reached
-- on the page of promises
pub mod SoundReached
