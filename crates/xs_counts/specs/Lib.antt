-- The definitions of the program of counts: what it prints, and how its calls end.
pub mod Text
pub mod Answers
