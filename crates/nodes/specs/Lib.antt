-- The codes of the nodes as the code's enum has them.
pub mod NodeCodes
