-- Lemmas on bytes that are read and written, one file a noun.
pub mod KnownBytes
