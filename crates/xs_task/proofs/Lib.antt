pub mod MemoryLemmas
pub mod MarkLemmas
pub mod ParkLemmas
pub mod CopyLemmas
pub mod BirthLemmas
pub mod ForkLemmas
