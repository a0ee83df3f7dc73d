pub mod Recents
pub mod Steps
pub mod Entries
pub mod LineStates
pub mod Held
pub mod CellsRead
pub mod UsesTaken
pub mod PageChanges
