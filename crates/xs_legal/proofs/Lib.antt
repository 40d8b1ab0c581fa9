-- Lemmas of the machine that tells which event is legal, one file a theme.
pub mod Alike
mod Commands
mod Following
mod Halves
mod Lines
mod Numbering
mod Places
mod Reaching
pub mod Rights
mod Telling
mod Turning
