pub mod Edges
pub mod Flow
pub mod Work
pub mod Graph
pub mod Sharing
pub mod Reached
pub mod Forest
