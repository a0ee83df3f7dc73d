pub mod Allowed
pub mod Firsts
pub mod Lasts
pub mod Least
pub mod Lines
pub mod Names
pub mod Positions
pub mod Steps
