pub mod Counts
pub mod Drafts
pub mod Faults
pub mod Laws
pub mod Seen
