-- The definitions of banks, one file a noun, and what the crate's own loops cite.
pub mod Load
pub mod Save
pub mod Registers
pub mod Bank
pub mod Rows
pub mod Tracking
pub mod Holds
pub mod SetUp
