pub mod Commands
pub mod Dialogues
pub mod Laws
pub mod Breakpoints
pub mod Session
pub mod Shown
pub mod Standing
