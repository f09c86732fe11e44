pub mod Deciding
pub mod Unreported
