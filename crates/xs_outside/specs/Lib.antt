-- What stands outside the program: sources and sinks as a caller knows them, and the exit statuses.
pub mod Outside
pub mod Statuses
