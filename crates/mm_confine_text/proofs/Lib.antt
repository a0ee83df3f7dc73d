mod Listing
mod Answering
mod Texts
mod Ones
pub mod Confining
