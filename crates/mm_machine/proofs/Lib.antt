mod Collecting
pub mod Copied
pub mod Keeping
pub mod Rounds
pub mod Running
pub mod Went
mod Issuing
pub mod Outputs
mod Pendings
mod Ports
mod Queues
pub mod Restorable
mod Restoring
pub mod Returning
mod Rising
mod Shown
pub mod Starting
mod Steps
