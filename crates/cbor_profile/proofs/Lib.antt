-- ---- numbers in network order
pub mod Wide
-- ---- heads: read as they are spelled, and where they are refused
pub mod Heads
mod HeadFaults
pub mod Sizes
-- ---- items
pub mod Items
pub mod ItemGrammar
pub mod ItemFaults
-- ---- heads of tokens
pub mod Tokens
