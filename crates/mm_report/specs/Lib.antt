pub mod Changes
pub mod Groups
pub mod Outcomes
pub mod Pages
