-- The definitions of areas stand in xs_base: here is what the crate's own loops cite.
pub mod Stored
pub mod Copy
pub mod Readable
