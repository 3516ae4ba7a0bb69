-- The words of the theorems on the grammar.
pub mod Grammar
-- on the page of promises
pub mod ReadAsSpelled
