pub mod Searches
pub mod Inserts
pub mod Commons
pub mod ManyInserts
pub mod Pushes
