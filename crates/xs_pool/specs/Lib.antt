-- Pools of save areas: what callers see, and what a pool's shelves keep.
pub mod Pool
pub mod Shelf
