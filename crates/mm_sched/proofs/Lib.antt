pub mod Words
pub mod Numbers
pub mod Reading
pub mod Bits
pub mod Rounds
