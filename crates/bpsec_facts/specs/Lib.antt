pub mod Items
pub mod Bibs
pub mod Facts
pub mod View
pub mod Refusal
pub mod Left
pub mod Answer
