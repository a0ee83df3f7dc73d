mod RunStates
mod GrantLaws
mod CountSums
pub mod Restricting
mod Robins
mod Texts
mod CountExact
pub mod GrantedWords
pub mod GrantedRows
pub mod GrantedTurns
pub mod GrantedRuns
pub mod AlikeRows
pub mod AlikeWorlds
pub mod AlikeTurns
pub mod OutsideTurns
pub mod TwoRuns
pub mod TwoLists
pub mod SameSections
pub mod CellViews
pub mod ChangedCells
pub mod SameViews
pub mod OwnImages
pub mod OwnItems
pub mod CellTexts
pub mod WholeRuns
pub mod VersionTurns
pub mod VersionRuns
pub mod Left
