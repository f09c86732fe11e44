-- ---- sizes
pub mod Pieces
-- ---- the law of one spelling
pub mod OneSpelling
