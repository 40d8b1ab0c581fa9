-- What a run takes and leaves, and what holds of a processor within it.
pub mod Processors
pub mod Line
pub mod Turn
pub mod Running
pub mod Threads
