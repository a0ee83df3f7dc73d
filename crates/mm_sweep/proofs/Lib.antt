pub mod Sharing
pub mod SweptWords
pub mod SweptGrants
pub mod SweptImages
pub mod FirstSlots
pub mod FirstGroups
pub mod HolderLines
