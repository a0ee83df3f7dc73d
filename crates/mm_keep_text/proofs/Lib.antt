mod Sets
mod Listing
mod Uses
mod HeldWords
mod Ranges
mod Covering
pub mod Ones
mod Telling
