-- What the move answers, by its tests.
pub mod MoveReplies
