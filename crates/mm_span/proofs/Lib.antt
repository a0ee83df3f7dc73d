pub mod Members
pub mod Runs
pub mod Ones
pub mod Built
