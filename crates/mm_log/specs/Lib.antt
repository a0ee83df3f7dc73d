pub mod Lines
pub mod Changes
pub mod Log
pub mod Replay
pub mod Laws
pub mod Seen
pub mod Telling
