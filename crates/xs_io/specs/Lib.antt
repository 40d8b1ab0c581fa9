-- What a fault is counted as, sources and sinks in memory, and sinks over std.
pub mod Causes
pub mod Memory
pub mod Standard
