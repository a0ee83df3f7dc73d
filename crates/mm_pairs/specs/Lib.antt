pub mod Named
pub mod Trees
pub mod Found
