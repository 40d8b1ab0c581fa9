-- The definitions of the top call, one file a noun.
pub mod Statuses
pub mod Run
pub mod Command
pub mod Summary
pub mod Demo
pub mod Answers
pub mod Headline
