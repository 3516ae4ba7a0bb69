-- What an arm of the rules has to show.
pub mod Arms
