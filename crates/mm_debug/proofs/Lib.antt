mod Rising
mod Kept
pub mod StepCounts
mod SameAnswers
mod Watching
pub mod AnswersKeep
pub mod Going
pub mod LinesStand
pub mod Standing
mod Spots
pub mod Asked
pub mod Dialogues
pub mod InputLines
pub mod LineTokens
pub mod Stepping
pub mod Runs
pub mod FirstStops
pub mod AnyRuns
pub mod Points
pub mod SameStates
pub mod MemoryLines
