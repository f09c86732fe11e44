-- ---- reading: heads, fields, reports
pub mod Heads
pub mod Fields
pub mod Reports
pub mod Within
-- ---- writing
pub mod Sizes
-- ---- what stays when bytes are added
pub mod Growing
pub mod Stays
