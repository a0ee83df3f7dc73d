pub mod Asking
pub mod Counting
pub mod Known
pub mod Reading
