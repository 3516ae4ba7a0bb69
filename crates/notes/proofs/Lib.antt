-- Laws of a note's text, which the proofs of its test share.
pub mod NoteText
