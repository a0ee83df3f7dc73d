pub mod Placing
pub mod Faults
pub mod Linked
pub mod Answers
pub mod Steps
pub mod Laws
