pub mod Refusals
pub mod Done
pub mod Reassembled
pub mod NodeReport
pub mod Noded
pub mod Texts
pub mod Work
