pub mod Check
pub mod Division
pub mod Item
pub mod Polynomial
pub mod Table
pub mod Checking
