pub mod Found
pub mod Integrity
pub mod IntegrityLaws
pub mod Also
pub mod AlsoLaws
