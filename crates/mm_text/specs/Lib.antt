pub mod Gathers
pub mod Pieces
