pub mod Answers
pub mod Blocks
pub mod Laws
pub mod Packed
pub mod Places
pub mod Plain
pub mod Unpacked
