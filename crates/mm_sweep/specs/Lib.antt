pub mod Swept
pub mod Refusals
pub mod Holders
pub mod HolderTexts
pub mod Laws
