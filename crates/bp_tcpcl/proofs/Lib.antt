-- ---- what was read is spelled so
pub mod Steps
pub mod FieldsAsSpelled
pub mod Spelled
-- ---- what is spelled is read
pub mod Again
pub mod Parts
-- ---- what stays when bytes are added
pub mod Growing
-- ---- what a stream answers
pub mod Links
