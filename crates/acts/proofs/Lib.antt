-- The texts of the acts.
pub mod ActTexts
