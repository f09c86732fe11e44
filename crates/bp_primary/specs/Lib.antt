pub mod Flags
pub mod Fragment
pub mod Spelling
