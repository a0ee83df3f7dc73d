pub mod CellPlaces
pub mod Unions
pub mod Members
pub mod ReportText
