pub mod FileLemmas
pub mod MarkLemmas
pub mod TaskLemmas
pub mod ImageLemmas
pub mod FrameLemmas
pub mod ReplyLemmas
pub mod SetLemmas
