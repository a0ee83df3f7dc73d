pub mod Alu
pub mod Decode
pub mod Sum
pub mod Table
