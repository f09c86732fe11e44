pub mod Texts
pub mod Bodies
pub mod Covers
pub mod Lines
