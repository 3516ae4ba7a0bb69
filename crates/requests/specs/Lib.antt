-- The tests 4 to 7 of a request.
pub mod RequestTests
