-- The definitions of private tasks as code.
pub mod Marks
pub mod Answer
