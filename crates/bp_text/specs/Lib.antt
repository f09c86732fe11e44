pub mod Fault
pub mod Tree
pub mod IdText
pub mod Field
pub mod Shape
pub mod Names
pub mod Entries
pub mod Top
