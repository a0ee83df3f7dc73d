pub mod Places
pub mod Following
pub mod Numbers
pub mod Shown
pub mod Orders
