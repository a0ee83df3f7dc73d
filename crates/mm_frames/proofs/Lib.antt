pub mod Rows
pub mod Counts
pub mod Framed
pub mod Kept
pub mod Seating
pub mod Cells
