pub mod Ranges
pub mod ItemList
pub mod GroupList
pub mod SegmentList
pub mod Words
pub mod Table
pub mod Arguments
pub mod ParsedCommand
