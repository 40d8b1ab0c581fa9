-- What a delivery writes, one file a noun.
pub mod Framed
pub mod Named
