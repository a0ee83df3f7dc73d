pub mod Files
pub mod Memory
pub mod Sinks
pub mod Streams
