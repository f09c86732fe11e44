-- ---- reading: steps, tokens, ids, and what is answered
pub mod Steps
pub mod Tokens
pub mod Ids
pub mod Within
pub mod Read
-- ---- sizes and texts
pub mod Pieces
pub mod Decimals
pub mod Texts
-- ---- what stays when bytes are added, and where reading stops
pub mod Growing
pub mod Answered
