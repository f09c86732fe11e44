pub mod Polynomial
pub mod Bytes
