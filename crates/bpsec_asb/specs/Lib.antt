pub mod SecurityBlock
pub mod Reading
pub mod Step
pub mod Operations
pub mod Order
pub mod Known
