pub mod Keeper
pub mod Loops
pub mod Steps
pub mod Views
