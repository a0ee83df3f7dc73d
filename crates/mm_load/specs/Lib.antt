pub mod Kinds
pub mod Files
pub mod Stops
pub mod Lines
