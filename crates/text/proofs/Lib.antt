-- A text in parts put into an output, and a whole output, which callers cite too.
pub mod Cursors
pub mod Deliveries
pub mod Digits
pub mod Items
