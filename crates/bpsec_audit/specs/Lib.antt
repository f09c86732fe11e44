pub mod Lines
pub mod Reach
pub mod Rules
pub mod Keys
pub mod Items
pub mod Findings
