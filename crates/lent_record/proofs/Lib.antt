-- What the walks of the functions over a lent record share. Each file says what it shows.
pub mod Lent
pub mod ArrayFields
pub mod Calls
