-- The definitions of scripts as texts, one file a noun.
pub mod ScriptLine
pub mod Reads
pub mod Parts
pub mod Grammar
pub mod LineOrder
pub mod Before
pub mod Refusal
pub mod Front
pub mod Head
pub mod Schedule
pub mod Body
pub mod Commands
pub mod Outline
pub mod RefusalText
