-- Laws of the bytes of requests, which callers cite.
pub mod RequestBytes
