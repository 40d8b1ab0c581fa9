-- The definitions of histories as texts.
pub mod Text
pub mod Reading
