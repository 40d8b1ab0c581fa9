-- Lemmas of the program of counts, one file a noun.
pub mod KnownBytes
pub mod HeldInputs
pub mod Counted
