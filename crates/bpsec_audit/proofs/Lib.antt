mod Each
pub mod Dead
