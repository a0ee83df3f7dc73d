pub mod Laws
pub mod Recorded
pub mod Recorder
pub mod Shown
