pub mod Pairs
pub mod Spans
