-- Lemmas of the top call, one file a noun.
pub mod KnownBytes
pub mod HistoryFront
pub mod RunLemmas
pub mod AnswerLemmas
pub mod KnownInputs
pub mod NewProcessors
pub mod SetUpLemmas
