-- The rules on what one pass found.
pub mod Rules
