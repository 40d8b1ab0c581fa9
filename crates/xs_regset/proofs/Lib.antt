pub mod MarkLemmas
pub mod ReplyLemmas
pub mod LegacyLemmas
pub mod WriteLemmas
