pub mod Due
pub mod Reason
