pub mod Prefix
pub mod Spelled
pub mod Bundles
pub mod Values
