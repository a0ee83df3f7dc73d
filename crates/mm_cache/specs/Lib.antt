pub mod Lines
pub mod Over
pub mod Laws
