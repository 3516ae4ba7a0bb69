-- That answers are small, and told apart by their numbers, which are those of the replies that they stand for.
pub mod Apart
pub mod Replies
pub mod Small
pub mod Told
-- the lines of the page of promises
pub mod Citations
