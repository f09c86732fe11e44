pub mod Field
pub mod Cmac
pub mod State
