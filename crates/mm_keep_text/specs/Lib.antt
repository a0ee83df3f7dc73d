pub mod Keys
pub mod Told
pub mod Answers
pub mod Parts
pub mod Used
pub mod Laws
