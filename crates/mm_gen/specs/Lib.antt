pub mod Generated
pub mod Steps
pub mod Summary
pub mod Laws
