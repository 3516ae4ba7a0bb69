-- What the theorems on progress speak of besides the definitions of the papers.
pub mod Progress
-- on the page of promises
pub mod RetriesAndProgress
