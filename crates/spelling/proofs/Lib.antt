-- The texts of the lines.
pub mod LineTexts
