-- What the answers of `examine` mean.
pub mod TableTests
