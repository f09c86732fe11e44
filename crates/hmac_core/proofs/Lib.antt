-- ---- keys
pub mod Blocks
