-- Lemmas of the texts of histories, one file a noun.
pub mod SpacedWords
pub mod EventWords
pub mod OneSpelling
pub mod LegalEvents
pub mod LastDigits
pub mod HexDigits
pub mod Cuts
pub mod NumberText
pub mod LaneText
pub mod WordReads
pub mod EventReads
pub mod FirstBad
mod WorkedLines
