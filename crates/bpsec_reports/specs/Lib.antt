pub mod Reported
pub mod Audited
