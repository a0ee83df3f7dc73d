pub mod Taken
pub mod Open
pub mod Confined
