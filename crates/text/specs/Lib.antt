-- What an output asks for a text, and what it has once the text is put.
pub mod Cursors
