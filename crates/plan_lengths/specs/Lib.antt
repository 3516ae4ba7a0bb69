-- What the theorems on how long a plan will be speak of besides the definitions.
pub mod Rounds
-- on the page of promises
pub mod RoundsAndBounds
