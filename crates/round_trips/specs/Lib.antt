-- What the theorems on scripts written out and read speak of besides the definitions.
pub mod Exchange
-- on the page of promises
pub mod ScriptRooms
pub mod WrittenAndRead
