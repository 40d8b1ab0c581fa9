-- What is told of a history that is checked, one file a noun.
pub mod Split
pub mod Verdict
pub mod Call
