pub mod StatusReport
pub mod Reading
pub mod Step
