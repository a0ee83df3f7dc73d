pub mod Taken
pub mod Conduct
pub mod Grants
pub mod Reach
pub mod Laws
