-- Lemmas of the generator, one file a noun.
pub mod DrawLemmas
pub mod TextLemmas
pub mod FitCommands
pub mod NumberedOrders
pub mod TaskNames
pub mod TaskBlocks
pub mod GeneratedScripts
pub mod TextLengths
