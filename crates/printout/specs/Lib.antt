-- What the promise of the program's output cites besides the definitions of the scope paper.
pub mod Buffer
-- on the page of promises
pub mod ProgramRooms
