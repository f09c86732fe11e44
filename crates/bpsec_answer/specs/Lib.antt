pub mod Statuses
pub mod Reasons
pub mod Lines
pub mod Job
pub mod Due
pub mod Delivery
pub mod Riders
