pub mod Formats
pub mod Headers
pub mod Images
pub mod Reading
pub mod Laws
pub mod Parts
