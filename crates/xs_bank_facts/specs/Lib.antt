-- What the program's calls cite.
pub mod Turn
