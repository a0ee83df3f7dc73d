pub mod KindsOnce
pub mod Told
pub mod Reading
pub mod Several
