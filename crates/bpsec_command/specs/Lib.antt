pub mod Said
pub mod Commands
pub mod Grammar
pub mod Rows
pub mod Answer
