pub mod Lists
pub mod Kernels
pub mod Movings
pub mod Claims
pub mod Closed
pub mod Rows
pub mod Searching
