pub mod Lengths
pub mod Items
pub mod Records
