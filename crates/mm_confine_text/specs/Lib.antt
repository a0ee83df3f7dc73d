pub mod Found
pub mod Told
pub mod Parts
pub mod Laws
