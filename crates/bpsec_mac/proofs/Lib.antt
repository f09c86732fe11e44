pub mod Codes
pub mod PassedLemmas
pub mod ShapeOfMac
