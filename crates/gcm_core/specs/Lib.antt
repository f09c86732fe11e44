pub mod Polynomial
pub mod Block
pub mod Hash
pub mod Counter
pub mod Gcm
pub mod State
pub mod Tables
pub mod Streams
