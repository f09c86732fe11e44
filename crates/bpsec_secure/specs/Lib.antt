pub mod Parameters
pub mod Usable
pub mod Secured
pub mod Tags
pub mod Answer
pub mod Laws
