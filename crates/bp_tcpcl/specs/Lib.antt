pub mod Numbers
pub mod Spelling
pub mod Reasons
pub mod Reading
pub mod Step
pub mod Taking
