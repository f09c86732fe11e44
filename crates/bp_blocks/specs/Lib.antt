pub mod Spelling
pub mod Bodies
pub mod Blocks
