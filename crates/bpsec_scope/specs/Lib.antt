pub mod Target
pub mod Parts
pub mod Covered
pub mod View
