-- Lemmas of the checker, one file a theme.
pub mod Events
mod Tellings
mod Verdicts
