-- What the functions share.
pub mod FromFresh
