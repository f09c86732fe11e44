pub mod Field
pub mod Boxes
pub mod State
pub mod KeyExpansion
pub mod Cipher
pub mod Sliced
pub mod Words
