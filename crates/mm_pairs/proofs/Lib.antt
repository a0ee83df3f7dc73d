pub mod Names
pub mod Changes
pub mod Inserts
pub mod Founds
