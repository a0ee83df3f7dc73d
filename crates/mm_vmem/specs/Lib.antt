pub mod Stands
pub mod Entries
pub mod Cached
