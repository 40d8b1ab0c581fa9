-- What the readers of names find.
pub mod Finds
pub mod Names
pub mod Loads
pub mod Used
