pub mod Validity
pub mod Machine
pub mod Going
pub mod Snapshot
pub mod Capture
