-- What the walks over a lent record speak of.
pub mod Arrays
