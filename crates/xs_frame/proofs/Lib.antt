pub mod InitialLemmas
pub mod UserLemmas
pub mod BitLemmas
pub mod TaskLemmas
pub mod ReturnLemmas
pub mod WordLemmas
pub mod PlainLemmas
pub mod RoundLemmas
