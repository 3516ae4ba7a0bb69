-- The laws that the proofs of this crate's functions share.
pub mod SearchLaws
pub mod ChoiceLaws
