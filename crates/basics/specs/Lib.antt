-- What contracts of several crates cite besides the definitions of the scope paper: a text put into an output, a list of threads in whatever order, and the shortest lines of a script.
pub mod Outputs
pub mod EachOnce
pub mod ShortestLines
