pub mod MarkLemmas
pub mod GrowLemmas
