-- What a task of the kernel has, and what it stands for, one file a noun.
pub mod Memory
pub mod TaskArea
pub mod Marks
pub mod Private
pub mod Parked
