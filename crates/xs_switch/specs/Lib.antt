-- What switches take and leave, one file a noun.
pub mod Armed
pub mod Pkru
pub mod Running
