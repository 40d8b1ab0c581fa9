-- What is wrong with an event, what an event does to the blocks, and the machine that follows a history, one file a noun.
pub mod Difference
pub mod Gift
pub mod Standing
pub mod Step
pub mod Worked
pub mod Wrong
