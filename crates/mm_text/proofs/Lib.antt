pub mod Appending
pub mod HexDigits
pub mod LineLengths
pub mod RegisterLines
pub mod OutputRows
