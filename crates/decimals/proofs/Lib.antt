-- A number digit by digit.
pub mod Decimals
