pub mod Cells
pub mod Framed
pub mod Laws
